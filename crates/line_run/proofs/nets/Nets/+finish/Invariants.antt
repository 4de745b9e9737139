use Rattle.std.proofs.Common.{length}
use Rattle.line_run.proofs.nets.Nets.+finish.Given as goal

abbrev pub decreases-finish : goal.decreases-finish
decreases-finish g l = length l.self.now.waiting
