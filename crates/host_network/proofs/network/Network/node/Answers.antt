use Rattle.std.proofs.Common.{ap}
use Rattle.scp_spec.specs.Networks.{Instance}
use Rattle.node_core.specs.Listening.{FiledNode}
use Rattle.host_network.specs.FiledSlots.{instance_of_filed}
use Rattle.host_network.proofs.HostedAt.{none-read, some-read}
use Rattle.host_network.proofs.network.Network.node.Goals as goal

pub returns-in-None-clause-value : goal.returns-in-None-clause-value
returns-in-None-clause-value g c net stands =
    none-read (λ p. instance_of_filed p.now) (λ (x : Instance). x.node) c.hosted.result _ (c.hosted.ensures.value net stands) c.in-None.is

pub returns-in-Some-clause-value : goal.returns-in-Some-clause-value
returns-in-Some-clause-value g c net stands =
    some-read (λ p. instance_of_filed p.now) (λ (x : Instance). x.node) c.hosted.result _ c.in-Some.instance c.node.result.now.node (c.hosted.ensures.value net stands) c.in-Some.is (ap (λ (h : FiledNode). h.node) c.node.ensures)
