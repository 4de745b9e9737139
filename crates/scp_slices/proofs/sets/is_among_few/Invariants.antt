use Rattle.std.proofs.Common.{◌≡◌, drop}
use Rattle.scp_spec.specs.Sets.{among}
use Rattle.scp_slices.proofs.sets.is_among_few.Given as goal

abbrev pub invariant-loop-other : goal.invariant-loop-other
invariant-loop-other l = among (drop l.other-index l.nodes) l.node ≡ among l.nodes l.node
