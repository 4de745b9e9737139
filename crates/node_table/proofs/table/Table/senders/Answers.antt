use Rattle.std.proofs.Common.{◌∙◌, ap}
use Rattle.node_store.specs.Archives.{sents_of}
use Rattle.node_table.proofs.Tabled.{senders-read}
use Rattle.node_table.proofs.table.Table.senders.Goals as goal

pub returns : goal.returns
returns c = c.senders.ensures ∙ senders-read (sents_of c.self.inside.rows.items) (sents_of c.args.self.now) c.self.inside.index c.self.invariant.0 (ap sents_of c.self.view_is)
