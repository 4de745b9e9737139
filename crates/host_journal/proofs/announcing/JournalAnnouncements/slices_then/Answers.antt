use Rattle.std.proofs.Common.{◌∙◌, ap}
use Rattle.scp_spec.specs.Networks.{slices_of}
use Rattle.scp_spec.specs.Hosts.{Config}
use Rattle.host_journal.proofs.SlicesThen.{configured_then, open_then}
use Rattle.host_journal.proofs.announcing.JournalAnnouncements.slices_then.Goals as goal

pub returns-in-Some : goal.returns-in-Some
returns-in-Some g c = open_then c.args.self.now.config c.args.self.now.entries c.args.slot c.args.node.now c.in-Some.slices.now c.replays.ensures c.in-Some.ensures.value c.in-Some.ensures.there

pub returns-in-None : goal.returns-in-None
returns-in-None g c =
    c.configured_slices.ensures.value
    ∙ ap (λ (k : Config). slices_of k.nodes c.args.node.now) c.config.ensures
    ∙ configured_then c.args.self.now.config c.args.self.now.entries c.args.slot c.args.node.now c.replays.ensures c.in-None.ensures.there
