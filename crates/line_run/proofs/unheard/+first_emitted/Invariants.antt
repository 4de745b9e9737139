use Rattle.std.proofs.Common.{length}
use Rattle.line_run.proofs.unheard.+first_emitted.Given as goal

abbrev pub decreases-first_emitted : goal.decreases-first_emitted
decreases-first_emitted l = length l.outs.now
