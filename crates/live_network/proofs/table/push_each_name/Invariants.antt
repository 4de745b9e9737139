use Rattle.std.proofs.Common.{◌≡◌, ◌++◌, drop}
use Rattle.std.specs.Prelude.{string_bytes}
use Rattle.std.specs.List.{flat_map}
use Rattle.live_network.specs.Shown.{spaced_name}
use Rattle.live_network.proofs.table.push_each_name.Given as goal

abbrev pub invariant-loop-name : goal.invariant-loop-name
invariant-loop-name l = string_bytes l.text ++ flat_map spaced_name (drop l.name-index l.names) ≡ string_bytes l.fn.text ++ flat_map spaced_name l.names
