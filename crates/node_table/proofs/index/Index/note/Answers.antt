use Rattle.std.proofs.Common.{◌∙◌, ap}
use Rattle.node_table.specs.Places.{index_of_entries}
use Rattle.node_table.proofs.Searches.{noted-read}
use Rattle.node_table.proofs.index.Index.note.Goals as goal

pub returns-clause-ok : goal.returns-clause-ok
returns-clause-ok c =
    ap index_of_entries c.in_ok-insert.ensures.entries
    ∙ noted-read c.self.inside.by_sender.entries c.args.self.now c.args.sender c.args.kind c.args.place c.places.result c.with_place-places.result c.self.view_is c.requires.ascends c.places.ensures (c.with_place-places.ensures c.args.sender)
