use Rattle.std.proofs.Common.{length}
use Rattle.line_run.proofs.host_run.HostRun.+deliver_each.Given as goal

abbrev pub decreases-deliver_each : goal.decreases-deliver_each
decreases-deliver_each g l = length l.names.now
