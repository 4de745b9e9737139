use Rattle.std.proofs.Common.{length}
use Rattle.line_run.proofs.outcome.+had_memory.Given as goal

abbrev pub decreases-had_memory : goal.decreases-had_memory
decreases-had_memory l = length l.answers.now
