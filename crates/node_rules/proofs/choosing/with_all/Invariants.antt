use Rattle.std.proofs.Common.{◌≡◌, ◌≤◌, length}
use Rattle.scp_spec.specs.Candidates.{all_with}
use Rattle.node_rules.proofs.choosing.with_all.Given as goal

abbrev pub invariant-loop-left : goal.invariant-loop-left
invariant-loop-left l = (length l.left ≤ length l.values) × (all_with l.left l.set ≡ all_with l.values l.fn.set)

abbrev pub decreases-loop-left : goal.decreases-loop-left
decreases-loop-left l = length l.left
