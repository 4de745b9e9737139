use Rattle.std.proofs.Common.{rules, refl}
use Rattle.pool_script.proofs.DealingLaws.{none_taken, one_taken}
use Rattle.pool_script.proofs.dealing.by_number.Goals as goal

pub loop-config-init : goal.loop-config-init
loop-config-init c = none_taken c.args.configs.items c.args.configs.items c.new-shares.result refl c.new-shares.ensures.empty

pub loop-config-preserved : goal.loop-config-preserved
loop-config-preserved c =
    one_taken c.args.configs.items c.loop-config.configs.items c.pop.new.self.items c.in-Some.config (record { config = c.in-Some.config; calls = c.new.result }) c.number-number.result c.loop-config.shares c.insert.new.self
    (search rules) refl c.new.ensures.items c.number-number.ensures (search rules) c.loop-config.invariant
