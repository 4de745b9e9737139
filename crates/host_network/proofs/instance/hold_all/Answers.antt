use Rattle.node_store.specs.Archives.{IsHeld}
use Rattle.node_store.proofs.Growing.{held-still}
use Rattle.host_network.proofs.Forgetting.{all-of, one-more-held}
use Rattle.host_network.proofs.instance.hold_all.Goals as goal

pub loop-filed-preserved : goal.loop-filed-preserved
loop-filed-preserved c = record {
  held = one-more-held c.loop-filed.held c.hold.new.self c.args.all.now c.loop-filed.filed-index c.filed-item.result c.loop-filed-test.true c.filed-item.is c.hold.ensures c.loop-filed.invariant.held;
  kept = λ f h. held-still c.loop-filed.held c.hold.new.self c.filed-item.result c.hold.ensures f (c.loop-filed.invariant.kept f h);
}

pub returns-clause-held : goal.returns-clause-held
returns-clause-held c = all-of (IsHeld c.loop-filed.held) c.args.all.now c.loop-filed.filed-index c.loop-filed-test.false c.loop-filed.invariant.held
