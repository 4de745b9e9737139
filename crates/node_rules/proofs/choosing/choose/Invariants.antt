use Rattle.node_rules.proofs.Chosen.{GoesOn}
use Rattle.node_rules.proofs.choosing.choose.Given as goal

abbrev pub invariant-loop-value : goal.invariant-loop-value
invariant-loop-value g l = GoesOn (g.T.ValueTest.passes l.test) l.most l.values l.chosen l.room l.value-index
