use Rattle.scp_bits.proofs.Clearing.{cleared}
use Rattle.scp_bits.proofs.places.clear_place.Goals as goal

pub returns : goal.returns
returns c = cleared c.args.places.now c.args.place c.requires
