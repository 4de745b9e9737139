use Rattle.live_host.proofs.ApartShuffled as shuffled
use Rattle.live_host.proofs.apart.order_among_networks_does_not_count.Goals as goal

pub returns : goal.returns
returns c = shuffled.order_among_networks_does_not_count
