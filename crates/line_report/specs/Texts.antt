-- A report as lines of text.
use Rattle.std.specs.Prelude.{◌++◌, ◌==◌, ℕ, List, [], ◌∷◌, Option, Some, None, codes, if◌then◌else◌}
use Rattle.std.specs.List.{enumerate_from, flat_map}
use Rattle.std.specs.Fmt.{decimal}
use Rattle.line_script.specs.Script.{Bytes}
use Rattle.line_script.specs.Names.{text_of_name}
use Rattle.host_closure.specs.Announcing.{MemberList}
use Rattle.line_report.specs.Reports.{Shown}

-- the place of the member that named the one at a place, behind a space (32), with a line feed (10); the first one has
-- a hyphen
abbrev pub text_of_namer : ℕ → ℕ → Bytes
text_of_namer place namer = if place == 0 then codes " -\n" else codes " " ++ (decimal namer ++ 10 ∷ [])

-- the line of a member: its place, its name, and who named it
abbrev pub line_of_named_member : ℕ × (ℕ × ℕ) → Bytes
line_of_named_member m = decimal m.0 ++ (32 ∷ text_of_name m.1.0 ++ text_of_namer m.0 m.1.1)

-- the line of the member at a place, if there is one
abbrev pub line_at : ℕ → Option (ℕ × ℕ) → Bytes
line_at place None = []
line_at place (Some m) = line_of_named_member (place, m)

-- the lines of the members from a place on
abbrev pub lines_from : ℕ → MemberList → Bytes
lines_from place members = flat_map line_of_named_member (enumerate_from place members)

-- a name behind a space
abbrev pub name_behind_space : ℕ → Bytes
name_behind_space u = 32 ∷ text_of_name u

-- the line of a hosted member: its name, and those that block it by themselves
abbrev pub line_of_blockers : ℕ × List ℕ → Bytes
line_of_blockers b = codes "blocks " ++ (text_of_name b.0 ++ (flat_map name_behind_space b.1 ++ 10 ∷ []))

-- the text of a report: the members in the order in which they were found, then the hosted ones
abbrev pub text_of_report : Shown → Bytes
text_of_report r = lines_from 0 r.members ++ flat_map line_of_blockers r.hosted
