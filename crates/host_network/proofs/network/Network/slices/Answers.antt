use Rattle.std.proofs.Common.{◌∙◌, sym, ap, is_some}
use Rattle.scp_spec.specs.Networks.{Instance}
use Rattle.host_network.specs.FiledSlots.{instance_of_filed}
use Rattle.host_network.proofs.HostedAt.{none-read, some-read}
use Rattle.host_network.proofs.network.Network.slices.Goals as goal

pub returns-in-None-clause-value : goal.returns-in-None-clause-value
returns-in-None-clause-value g c net stands =
    none-read (λ p. instance_of_filed p.now) (λ (x : Instance). x.node.slices) c.hosted.result _ (c.hosted.ensures.value net stands) c.in-None.is

pub returns-in-None-clause-there : goal.returns-in-None-clause-there
returns-in-None-clause-there g c net stands = sym (ap is_some c.in-None.is) ∙ c.hosted.ensures.there net stands

pub returns-in-Some-clause-value : goal.returns-in-Some-clause-value
returns-in-Some-clause-value g c net stands =
    some-read (λ p. instance_of_filed p.now) (λ (x : Instance). x.node.slices) c.hosted.result _ c.in-Some.instance c.slices.result.now (c.hosted.ensures.value net stands) c.in-Some.is c.slices.ensures

pub returns-in-Some-clause-there : goal.returns-in-Some-clause-there
returns-in-Some-clause-there g c net stands = sym (ap is_some c.in-Some.is) ∙ c.hosted.ensures.there net stands
