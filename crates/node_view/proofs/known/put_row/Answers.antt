use Rattle.node_store.specs.Archives.{sents_of}
use Rattle.node_view.specs.Listening.{reach_in}
use Rattle.node_view.proofs.Standings.{region_known}
use Rattle.node_view.proofs.known.put_row.Goals as goal

pub effect_of-effect-requires-clause-row : goal.effect_of-effect-requires-clause-row
effect_of-effect-requires-clause-row g c =
    let k = c.args.configured.now in
    let table = sents_of c.args.table.now in
    c.standing_of-there.ensures.row k table (region_known k table (reach_in c.args.known.now) c.requires.known)
