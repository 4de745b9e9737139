use Rattle.scp_types.proofs.Insertions.{GoesOn}
use Rattle.scp_types.proofs.values.missing_at.Given as goal

abbrev pub invariant-loop-index : goal.invariant-loop-index
invariant-loop-index l = GoesOn l.value l.items l.index
