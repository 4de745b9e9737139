use Rattle.node_view.proofs.PlaceLaws.{both_all, both_more}
use Rattle.node_view.proofs.region.row_places.Goals as goal

pub loop-node-preserved : goal.loop-node-preserved
loop-node-preserved g c =
    let loop = c.loop-node in
    let places = c.places in
    both_more c.args.table.now c.args.nodes.now loop.node-index loop.found loop.invariant c.node-item.result places.result c.push.new.self c.loop-node-test.true c.node-item.is places.ensures.ballot places.ensures.nomination c.in_ok-push.ensures.ballots c.in_ok-push.ensures.nominations

pub returns : goal.returns
returns g c =
    let loop = c.loop-node in
    both_all c.args.table.now c.args.nodes.now loop.node-index loop.found loop.invariant c.loop-node-test.false
