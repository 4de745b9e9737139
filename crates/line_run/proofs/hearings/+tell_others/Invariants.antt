use Rattle.std.proofs.Common.{length}
use Rattle.line_run.proofs.hearings.+tell_others.Given as goal

abbrev pub decreases-tell_others : goal.decreases-tell_others
decreases-tell_others g l = length l.names.now
