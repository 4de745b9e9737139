use Rattle.std.proofs.Common.{◌≡◌, ◌≤◌, length}
use Rattle.scp_spec.specs.Candidates.{all_with}
use Rattle.node_view.proofs.rows.insert_all.Given as goal

abbrev pub invariant-loop-left : goal.invariant-loop-left
invariant-loop-left l = (length l.left ≤ length l.more) × (all_with l.left l.values ≡ all_with l.more l.initial.values)

abbrev pub decreases-loop-left : goal.decreases-loop-left
decreases-loop-left l = length l.left
