use Rattle.std.proofs.Common.{◌∙◌, ◌<◌, IfSome, ap, subst}
use Rattle.node_store.specs.Archives.{sents_of}
use Rattle.node_table.proofs.Filings.{sents-length}
use Rattle.node_table.proofs.Tabled.{found-read, placed-within}
use Rattle.node_table.proofs.table.Table.place.Goals as goal

pub returns-clause-value : goal.returns-clause-value
returns-clause-value c =
    c.get.ensures ∙ (c.place.ensures ∙ found-read (sents_of c.self.inside.rows.items) (sents_of c.args.self.now) c.self.inside.index c.args.sender.now c.args.kind c.self.invariant.0 (ap sents_of c.self.view_is))

pub returns-clause-within : goal.returns-clause-within
returns-clause-within c =
    subst (λ n. IfSome c.get.result (λ i. i < n)) (sents-length c.args.self.now)
    (placed-within (sents_of c.args.self.now) c.args.sender.now c.args.kind c.get.result
    (c.get.ensures ∙ (c.place.ensures ∙ found-read (sents_of c.self.inside.rows.items) (sents_of c.args.self.now) c.self.inside.index c.args.sender.now c.args.kind c.self.invariant.0 (ap sents_of c.self.view_is))))
