use Rattle.scp_spec.proofs.Nominating.ValueSets.{value_before}
use Rattle.node_view.proofs.rows.insert_all.Goals as goal

pub loop-left-preserved : goal.loop-left-preserved
loop-left-preserved c =
    value_before c.loop-left.left.now c.args.more.now c.value-item.result c.loop-left.values c.insert.new.self c.args.values.now c.in-len1-up.len_at_least c.value-item.is
    c.loop-left.invariant.0 c.loop-left.invariant.1 (simp c.in_ok-try_copy.ensures at c.in_ok-insert.ensures.ok)
