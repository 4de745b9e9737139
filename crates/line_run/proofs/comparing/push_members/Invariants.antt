use Rattle.std.proofs.Common.{◌≡◌, ◌++◌, drop}
use Rattle.std.specs.Prelude.{string_bytes}
use Rattle.std.specs.List.{flat_map}
use Rattle.line_run.specs.Comparisons.{line_of_member}
use Rattle.line_run.proofs.comparing.push_members.Given as goal

abbrev pub invariant-loop-member : goal.invariant-loop-member
invariant-loop-member l = string_bytes l.text ++ flat_map line_of_member (drop l.member-index l.members) ≡ string_bytes l.fn.text ++ flat_map line_of_member l.members
