-- A byte 0 stands in bytes that have a first place of it.
use Rattle.std.proofs.Common.{◌∙◌, ap}
use Rattle.std.specs.Prelude.{is_some}
use Rattle.live_feed.proofs.PlacesOfBytes.{has_place_is}
use Rattle.live_feed.proofs.reading.has_hole.Goals as goal

pub returns : goal.returns
returns c = c.is_some.ensures ∙ ap is_some c.first_place.ensures ∙ has_place_is 0 c.args.bytes.now
