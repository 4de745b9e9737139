use Rattle.std.proofs.Common.{◌≡◌, drop}
use Rattle.std.specs.Prelude.{string_bytes}
use Rattle.std.specs.List.{fold}
use Rattle.line_table.specs.TableLines.{text_with_name}
use Rattle.line_table.proofs.table_run.push_names.Given as goal

abbrev pub invariant-loop-name : goal.invariant-loop-name
invariant-loop-name l = fold text_with_name (string_bytes l.text) (drop l.name-index l.names) ≡ fold text_with_name (string_bytes l.fn.text) l.names
