use Rattle.std.proofs.Common.{◌≡◌, ◌++◌}
use Rattle.std.specs.Prelude.{string_bytes}
use Rattle.std.specs.List.{flat_map}
use Rattle.node_table.specs.Senders.{senders}
use Rattle.live_network.specs.Shown.{front_of, rows_of_sender}
use Rattle.live_network.proofs.table.push_rows.Given as goal

abbrev pub invariant-loop-sender : goal.invariant-loop-sender
invariant-loop-sender g l =
    string_bytes l.text ++ flat_map (rows_of_sender (front_of l.place.line l.place.network l.place.slot l.node) l.rows) l.sender-iterator
    ≡ string_bytes l.fn.text ++ flat_map (rows_of_sender (front_of l.place.line l.place.network l.place.slot l.node) l.rows) (senders l.rows)
