use Rattle.std.proofs.Common.{◌<◌, ◌∙◌, sym, arith}
use Rattle.node_rules.proofs.PreparedLaws.{counter_above}
use Rattle.node_rules.proofs.prepared.first_kept.Goals as goal

pub overflow_add-result : goal.overflow_add-result
overflow_add-result c =
    let h : c.args.old.now.counter < c.args.new.now.counter = counter_above c.args.old.now c.args.new.now c.requires.rises c.requires.differ (sym c.lt.ensures ∙ c.if-lt.false) in
    omega arith
