use Rattle.std.proofs.Common.{◌∙◌, ap, sym}
use Rattle.node_table.specs.Places.{index_of_entries}
use Rattle.node_table.proofs.Searches.{removed-read, kept-read}
use Rattle.node_table.proofs.index.Index.forget.Goals as goal

pub returns-then-is_vacant : goal.returns-then-is_vacant
returns-then-is_vacant c =
    ap index_of_entries c.remove.ensures.entries
    ∙ removed-read c.self.inside.by_sender.entries c.args.self.now c.args.sender.now c.args.kind c.places.result c.without_place-places.result c.self.view_is c.places.ensures (c.without_place-places.ensures c.args.sender.now) (sym (c.if-is_vacant.ensures c.args.sender.now))

pub returns-else-is_vacant : goal.returns-else-is_vacant
returns-else-is_vacant c =
    kept-read c.insert.result c.self.inside.by_sender.entries c.insert.new.self.entries c.args.self.now c.args.sender.now c.args.kind c.places.result c.without_place-places.result c.insert.ensures.entries c.insert.ensures.absent c.self.view_is c.requires c.places.ensures (c.without_place-places.ensures c.args.sender.now) (sym (c.if-is_vacant.ensures c.args.sender.now))
