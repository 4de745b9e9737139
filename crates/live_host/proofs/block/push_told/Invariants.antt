use Rattle.std.proofs.Common.{◌≡◌, ◌++◌, drop}
use Rattle.std.specs.Prelude.{string_bytes}
use Rattle.std.specs.List.{flat_map}
use Rattle.live_network.specs.Telling.{tellings_of}
use Rattle.live_host.specs.Blocks.{line_of_telling}
use Rattle.live_host.proofs.block.push_told.Given as goal

abbrev pub invariant-loop-one : goal.invariant-loop-one
invariant-loop-one l =
    string_bytes l.text ++ flat_map (line_of_telling l.place.bytes l.place.line l.place.network l.slot) (tellings_of (drop l.one-index l.told))
    ≡ string_bytes l.fn.text ++ flat_map (line_of_telling l.place.bytes l.place.line l.place.network l.slot) (tellings_of l.told)
