use Rattle.std.proofs.Common.{rules, ◌∙◌}
use Rattle.pool_script.proofs.StandingLaws.{standing_on}
use Rattle.pool_script.proofs.decided.decided_in_order.Goals as goal

pub loop-number-preserved : goal.loop-number-preserved
loop-number-preserved g c = search rules ∙ standing_on c.loop-number.found.items c.args.journal.now.entries c.loop-number.number (search rules) c.loop-number.invariant
