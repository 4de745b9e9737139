use Rattle.std.proofs.Common.{arith, subst, sym}
use Rattle.node_view.proofs.MovedPlaces.{StandsAt, found_stands, stands_more}
use Rattle.node_view.proofs.changing.moved_places.Goals as goal

pub loop-node-preserved : goal.loop-node-preserved
loop-node-preserved c =
    let all = c.args.all.now in
    let loop = c.loop-node in
    let node = c.node-item in
    let found = c.place_behind-place in
    let stands : StandsAt all node.result c.unwrap_or.result = subst (StandsAt all node.result) (sym c.unwrap_or.ensures) (found_stands all node.result found.new.next found.result found.ensures.exactly found.ensures.place) in
    record {
      counted = omega (arith, loop.invariant.counted, c.in_ok-push.ensures.len);
      stands = stands_more all c.args.nodes.now loop.places.items c.push.new.self.items loop.node-index node.result c.unwrap_or.result loop.invariant.counted c.loop-node-test.true node.is c.in_ok-push.ensures.items stands loop.invariant.stands;
    }
