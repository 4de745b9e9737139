use Rattle.std.proofs.Common.{length}
use Rattle.live_host.proofs.all.+serve_said.Given as goal

abbrev pub decreases-serve_said : goal.decreases-serve_said
decreases-serve_said g l = length l.names.now
