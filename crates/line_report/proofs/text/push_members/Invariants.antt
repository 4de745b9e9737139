use Rattle.std.proofs.Common.{◌≡◌, ◌++◌, drop}
use Rattle.std.specs.Prelude.{string_bytes}
use Rattle.line_report.specs.Texts.{lines_from}
use Rattle.line_report.proofs.text.push_members.Given as goal

abbrev pub invariant-loop-place : goal.invariant-loop-place
invariant-loop-place l = string_bytes l.text ++ lines_from l.place (drop l.place l.members) ≡ string_bytes l.fn.text ++ lines_from 0 l.members
