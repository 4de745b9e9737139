use Rattle.scp_spec.specs.Hosts.{entries, nodes_of}
use Rattle.scp_spec.specs.Isolation.{closure}
use Rattle.host_network.specs.Decoding.{reading}
use Rattle.host_compare.proofs.crowding.are_never_crowded_out.Goals as goal

pub returns : goal.returns
returns c cast reserves inside same =
    let one = c.args.one.now in
    let other = c.args.other.now in
    let net = c.args.subject.now.net in
    let slot = c.args.subject.now.slot in
    let node = c.args.subject.now.node in
    let R = closure (nodes_of one.configs net) slot node (entries reading one net) in
    c.members_are_never_crowded_out.ensures.histories reading one other net slot node cast reserves inside (c.lengths_follow_from_envelopes.ensures reading c.envelopes_have_one_length.ensures one other net slot R same)
