use Rattle.std.proofs.Common.{◌∙◌, ap}
use Rattle.node_table.specs.Places.{place_in}
use Rattle.node_table.proofs.Searches.{place-found}
use Rattle.node_table.proofs.index.Index.place.Goals as goal

pub returns : goal.returns
returns c =
    c.place.ensures c.args.sender.now ∙ (ap (λ p. place_in p c.args.kind) c.places.ensures ∙ place-found c.args.self.now c.args.sender.now c.args.kind)
