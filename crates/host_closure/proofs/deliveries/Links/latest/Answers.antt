use Rattle.std.proofs.Common.{◌∙◌, ap}
use Rattle.host_closure.specs.Turns.{PartyIndex, found_by}
use Rattle.host_closure.proofs.NameLookups.{found_in_order}
use Rattle.host_closure.proofs.deliveries.Links.latest.Goals as goal

pub returns : goal.returns
returns c = c.copied.ensures ∙ (c.get.ensures.value ∙ (found_in_order c.args.party.now _ ∙ ap (λ (d : PartyIndex). found_by d.latest c.args.party.now) c.self.view_is))
