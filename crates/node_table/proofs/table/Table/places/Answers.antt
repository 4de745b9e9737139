use Rattle.std.proofs.Common.{◌∙◌, ap}
use Rattle.scp_types.specs.declared.kind.Kind.{Kind}
use Rattle.scp_types.specs.declared.kind.Kind.TheVariants.{Nomination}
use Rattle.node_store.specs.Archives.{sents_of}
use Rattle.node_table.specs.Places.{place_in}
use Rattle.node_table.proofs.Searches.{place-found}
use Rattle.node_table.proofs.Tabled.{found-read}
use Rattle.node_table.proofs.table.Table.places.Goals as goal

pub returns-clause-nomination : goal.returns-clause-nomination
returns-clause-nomination c =
    ap (λ p. place_in p Nomination) c.places.ensures
    ∙ (place-found c.self.inside.index c.args.sender.now Nomination
    ∙ found-read (sents_of c.self.inside.rows.items) (sents_of c.args.self.now) c.self.inside.index c.args.sender.now Nomination c.self.invariant.0 (ap sents_of c.self.view_is))

pub returns-clause-ballot : goal.returns-clause-ballot
returns-clause-ballot c =
    ap (λ p. place_in p Kind.Ballot) c.places.ensures
    ∙ (place-found c.self.inside.index c.args.sender.now Kind.Ballot
    ∙ found-read (sents_of c.self.inside.rows.items) (sents_of c.args.self.now) c.self.inside.index c.args.sender.now Kind.Ballot c.self.invariant.0 (ap sents_of c.self.view_is))
