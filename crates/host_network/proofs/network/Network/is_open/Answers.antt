use Rattle.std.proofs.Common.{◌∙◌, sym}
use Rattle.host_network.proofs.Allowed.{opened_at, opened_not, slot-in}
use Rattle.host_network.proofs.network.Network.is_open.Goals as goal

pub returns-in-None : goal.returns-in-None
returns-in-None g c net stands = sym (opened_not net c.args.slot (slot-in c.args.self.now net c.args.slot stands ∙ (sym c.slot_at.ensures ∙ c.in-None.is)))

pub returns-in-Some : goal.returns-in-Some
returns-in-Some g c net stands = sym (opened_at net c.args.slot _ (slot-in c.args.self.now net c.args.slot stands ∙ (sym c.slot_at.ensures ∙ c.in-Some.is)))
