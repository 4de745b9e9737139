use Rattle.std.proofs.Common.{◌∙◌, List, inl, refl, sym, ap}
use Rattle.scp_spec.specs.Networks.{HostedNode}
use Rattle.scp_spec.specs.Hosts.{entries}
use Rattle.scp_spec.specs.Isolation.{closure}
use Rattle.host_network.specs.Decoding.{reading}
use Rattle.host_journal.specs.Logs.{Log}
use Rattle.host_compare.proofs.RunsOf.{nodes_are, nobody}
use Rattle.host_compare.proofs.crowding.crowd.Goals as goal

pub returns-in_default-clause-verdict : goal.returns-in_default-clause-verdict
returns-in_default-clause-verdict c = inl (nobody c.args.one.now.configs c.args.subject.now.net c.args.subject.now.node (sym c.in_default.ensures), refl)

pub crowd_among-requires-clause-members : goal.crowd_among-requires-clause-members
crowd_among-requires-clause-members c = λ u.
    c.in_ok-members.ensures.exactly u
    ∙ (ap (λ (l : Log). closure l.config.nodes c.args.subject.now.slot c.args.subject.now.node l.entries u) c.in_ok-journal.ensures
    ∙ ap (λ (hs : List HostedNode). closure hs c.args.subject.now.slot c.args.subject.now.node (entries reading c.args.one.now c.args.subject.now.net) u) (nodes_are c.args.one.now.configs c.args.subject.now.net c.in-Some.config.now (sym c.in-Some.ensures)))
