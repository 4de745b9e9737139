use Rattle.scp_spec.proofs.Nominating.ValueSets.{value_before}
use Rattle.node_rules.proofs.choosing.with_all.Goals as goal

pub loop-left-preserved : goal.loop-left-preserved
loop-left-preserved c =
    value_before c.loop-left.left.now c.args.values.now c.value-item.result c.loop-left.set c.insert.new.self c.args.set c.in-len1-up.len_at_least c.value-item.is
    c.loop-left.invariant.0 c.loop-left.invariant.1 (simp c.in_ok-try_copy.ensures at c.in_ok-insert.ensures.ok)
