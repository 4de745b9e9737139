use Rattle.std.proofs.Common.{◌≡◌, ◌++◌, ◌∷◌, drop}
use Rattle.std.specs.Prelude.{string_bytes}
use Rattle.std.specs.Fmt.{decimal}
use Rattle.scp_types.specs.Shape.{members_of}
use Rattle.line_script.specs.Printed.{behind_commas, without_first}
use Rattle.line_script.proofs.slices.+push_set.Given as goal

abbrev pub decreases-push_set : goal.decreases-push_set
decreases-push_set l = goal.size-push_set l

abbrev pub invariant-loop-member : goal.invariant-loop-member
invariant-loop-member l = record {
  shape : members_of l.members ≡ l.set.members;
  written : string_bytes l.text ++ without_first l.first (behind_commas (members_of (drop l.member-index l.members))) ≡ string_bytes l.fn.text ++ (decimal l.set.threshold ++ 91 ∷ drop 1 (behind_commas l.set.members));
}
