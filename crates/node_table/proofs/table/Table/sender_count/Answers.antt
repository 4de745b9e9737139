use Rattle.std.proofs.Common.{◌∙◌, ap}
use Rattle.node_store.specs.Archives.{sents_of}
use Rattle.node_table.proofs.Tabled.{senders-counted}
use Rattle.node_table.proofs.table.Table.sender_count.Goals as goal

pub returns : goal.returns
returns c = c.sender_count.ensures ∙ senders-counted (sents_of c.self.inside.rows.items) (sents_of c.args.self.now) c.self.inside.index c.self.invariant.0 (ap sents_of c.self.view_is)
