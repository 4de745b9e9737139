use Rattle.std.proofs.Common.{◌≡◌, ◌++◌, drop}
use Rattle.std.specs.Prelude.{string_bytes}
use Rattle.std.specs.List.{flat_map}
use Rattle.live_network.specs.Shown.{value_behind_space}
use Rattle.live_network.proofs.nodes.push_each.Given as goal

abbrev pub invariant-loop-value : goal.invariant-loop-value
invariant-loop-value l = string_bytes l.text ++ flat_map value_behind_space (drop l.value-index l.values) ≡ string_bytes l.fn.text ++ flat_map value_behind_space l.values
