use Rattle.live_host.proofs.ApartRuns as runs
use Rattle.live_host.proofs.apart.alike_networks_are_answered_alike.Goals as goal

pub returns : goal.returns
returns c = runs.alike_networks_are_answered_alike
