use Rattle.live_host.proofs.ErasedNets as nets
use Rattle.live_host.proofs.erasing.erased_nets_step_alike.Goals as goal

pub returns : goal.returns
returns c = record { done = nets.erased_nets_step_alike; refused = nets.erased_nets_refuse_alike }
