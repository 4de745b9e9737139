use Rattle.std.proofs.Common.{◌+◌, sym, subst, arith}
use Rattle.node_view.proofs.WordLaws.{JoinedTo, none_more, one_joined}
use Rattle.node_view.proofs.words.join_places.Goals as goal
use Rattle.node_view.proofs.words.join_places.Goals.{then-index-places, else-index-places}

pub loop-index-preserved : goal.loop-index-preserved
loop-index-preserved c =
    let old = c.args.places.now in
    let more = c.args.more.now in
    let loop = c.loop-index in
    let n = loop.index in
    elim c.if-index-places.branch [
      | then-index-places w ↦ subst (JoinedTo (n + 1) old more) (sym w.places-is) (one_joined n old more loop.places loop.invariant (omega (arith, w.if-index-places.true)))
      | else-index-places w ↦ subst (JoinedTo (n + 1) old more) (sym w.places-is) (none_more n old more loop.places loop.invariant (omega (arith, w.if-index-places.false)))
    ]
