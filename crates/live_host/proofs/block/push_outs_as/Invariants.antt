use Rattle.std.proofs.Common.{◌≡◌, ◌++◌, drop}
use Rattle.std.specs.Prelude.{string_bytes}
use Rattle.std.specs.List.{flat_map}
use Rattle.live_host.specs.Blocks.{behind_space_as}
use Rattle.live_host.proofs.block.push_outs_as.Given as goal

abbrev pub invariant-loop-out : goal.invariant-loop-out
invariant-loop-out l =
    string_bytes l.text ++ flat_map (behind_space_as l.bytes) (drop l.out-index l.outs) ≡ string_bytes l.fn.text ++ flat_map (behind_space_as l.bytes) l.outs
