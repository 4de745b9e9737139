use Rattle.node_table.proofs.Searches.{got-read, absent-read}
use Rattle.node_table.proofs.index.Index.places.Goals as goal

pub returns-in-Some : goal.returns-in-Some
returns-in-Some c = got-read c.self.inside.by_sender.entries c.args.self.now c.args.sender.now c.in-Some.places.now c.self.view_is c.in-Some.ensures.value

pub returns-in-None : goal.returns-in-None
returns-in-None c = absent-read c.self.inside.by_sender.entries c.args.self.now c.args.sender.now c.none.result c.self.view_is c.in-None.ensures.value c.none.ensures.nomination c.none.ensures.ballot
