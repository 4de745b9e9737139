use Rattle.scp_bits.proofs.Clearing.{added}
use Rattle.scp_bits.proofs.places.add_place.Goals as goal

pub returns : goal.returns
returns c = added c.args.places.now c.args.place c.requires
