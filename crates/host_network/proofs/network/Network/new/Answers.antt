use Rattle.std.proofs.Common.{List, subst}
use Rattle.scp_spec.specs.Networks.{HostedNode}
use Rattle.scp_spec.specs.Sets.{IsAscending}
use Rattle.host_config.specs.Configs.{names_of}
use Rattle.host_network.proofs.Placed.{fresh-standing}
use Rattle.host_network.proofs.network.Network.new.Goals as goal

pub invariant_of-result : goal.invariant_of-result
invariant_of-result g c = fresh-standing c.args.config c.new.result c.nothing.result c.nothing.ensures (subst (λ (hs : List HostedNode). IsAscending (names_of hs)) c.nodes-nodes.ensures.value c.nodes-nodes.ensures.ascending)
