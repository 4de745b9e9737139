use Rattle.std.proofs.Common.{length}
use Rattle.line_run.proofs.hearings.+let_others_hear.Given as goal

abbrev pub decreases-let_others_hear : goal.decreases-let_others_hear
decreases-let_others_hear g l = length l.names.now
