use Rattle.std.proofs.Common.{◌≡◌}
use Rattle.std.specs.Prelude.{string_bytes}
use Rattle.std.specs.List.{fold}
use Rattle.node_table.specs.Senders.{senders}
use Rattle.line_table.specs.TableLines.{text_with_rows}
use Rattle.line_table.proofs.table_run.push_table.Given as goal

abbrev pub invariant-loop-sender : goal.invariant-loop-sender
invariant-loop-sender g l = fold (text_with_rows l.table) (string_bytes l.text) l.sender-iterator ≡ fold (text_with_rows l.table) (string_bytes l.fn.text) (senders l.table)
