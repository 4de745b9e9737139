-- The first place of a byte: that which the search finds.
use Rattle.live_feed.proofs.PlacesOfBytes.{first_place_is}
use Rattle.live_feed.proofs.reading.first_place.Goals as goal

pub memchr-requires : goal.memchr-requires
memchr-requires c = tt

pub returns : goal.returns
returns c = first_place_is c.args.at c.args.bytes.now c.memchr.result c.memchr.ensures
