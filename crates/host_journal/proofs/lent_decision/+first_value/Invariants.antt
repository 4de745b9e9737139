use Rattle.std.proofs.Common.{length}
use Rattle.host_journal.proofs.lent_decision.+first_value.Given as goal

abbrev pub decreases-first_value : goal.decreases-first_value
decreases-first_value l = length l.outs.now
