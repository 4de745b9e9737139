use Rattle.std.proofs.Common.{◌≡◌, ◌++◌, drop}
use Rattle.std.specs.Prelude.{string_bytes}
use Rattle.std.specs.List.{flat_map}
use Rattle.line_report.specs.Texts.{name_behind_space}
use Rattle.line_report.proofs.text.push_names.Given as goal

abbrev pub invariant-loop-name : goal.invariant-loop-name
invariant-loop-name l = string_bytes l.text ++ flat_map name_behind_space (drop l.name-index l.names) ≡ string_bytes l.fn.text ++ flat_map name_behind_space l.names
