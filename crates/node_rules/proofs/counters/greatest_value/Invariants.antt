use Rattle.std.proofs.Common.{◌≡◌, drop}
use Rattle.scp_spec.specs.Candidates.{greatest_value}
use Rattle.node_rules.proofs.counters.greatest_value.Given as goal

abbrev pub invariant-loop-other : goal.invariant-loop-other
invariant-loop-other l = greatest_value l.greatest (drop l.other-index l.others) ≡ greatest_value l.fn.value l.others
