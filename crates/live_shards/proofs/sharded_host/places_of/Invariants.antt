use Rattle.std.proofs.Common.{◌≡◌, ◌≤◌, length, map, take}
use Rattle.std.specs.Prelude.{vec_capacity, vec_len}
use Rattle.live_feed.specs.Reading.{given_of}
use Rattle.live_shards.specs.Parts.{ArePlaced}
use Rattle.live_shards.proofs.sharded_host.places_of.Given as goal

abbrev pub invariant-loop-line : goal.invariant-loop-line
invariant-loop-line l =
    (vec_len l.places ≡ l.line-index) × (length l.lines ≤ vec_capacity l.places) × ArePlaced l.count (map given_of (take l.line-index l.lines)) l.places.items
