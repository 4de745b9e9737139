use Rattle.live_host.proofs.ApartBoth as both
use Rattle.live_host.proofs.apart.networks_are_apart.Goals as goal

pub returns : goal.returns
returns c = both.networks_are_apart
