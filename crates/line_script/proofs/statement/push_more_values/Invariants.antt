use Rattle.std.proofs.Common.{◌≡◌, ◌++◌, drop}
use Rattle.std.specs.Prelude.{string_bytes}
use Rattle.std.specs.List.{flat_map}
use Rattle.line_script.specs.Printed.{behind_plus}
use Rattle.line_script.proofs.statement.push_more_values.Given as goal

abbrev pub invariant-loop-value : goal.invariant-loop-value
invariant-loop-value l = string_bytes l.text ++ flat_map behind_plus (drop l.value-index l.values) ≡ string_bytes l.fn.text ++ flat_map behind_plus l.values
