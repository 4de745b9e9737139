use Rattle.std.proofs.Common.{◌∙◌, ap, map}
use Rattle.node_table.specs.Places.{Places}
use Rattle.node_table.proofs.Searches.{listed-keys}
use Rattle.node_table.proofs.index.Index.senders.Goals as goal

pub returns : goal.returns
returns c = c.of.ensures ∙ (c.keys.ensures.rest ∙ (listed-keys c.self.inside.by_sender.entries ∙ ap (map (λ (p : Places). p.sender)) c.self.view_is))
