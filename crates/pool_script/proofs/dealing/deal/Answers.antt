use Rattle.std.proofs.Common.{rules, refl}
use Rattle.pool_script.proofs.DealingLaws.{dealt_elsewhere, dealt_one, all_dealt}
use Rattle.pool_script.proofs.dealing.deal.Goals as goal

pub loop-number-preserved-in-Continue-branch-2 : goal.loop-number-preserved-in-Continue-branch-2
loop-number-preserved-in-Continue-branch-2 c =
    dealt_one c.args.configs.items c.args.calls.items c.loop-number.number-iterator.rest.items c.next.new.self.rest.items c.loop-number.elsewhere.items (c.in-Some.number, c.in-Some.event)
    c.in-Some-get_mut.share.now (record { config = c.in-Some-get_mut.share.now.config; calls = c.push.new.self }) c.loop-number.shares _
    (search rules) (search rules) refl (search rules) (search rules) c.loop-number.invariant

pub loop-number-preserved : goal.loop-number-preserved
loop-number-preserved c =
    dealt_elsewhere c.args.configs.items c.args.calls.items c.loop-number.number-iterator.rest.items c.next.new.self.rest.items c.loop-number.elsewhere.items _ (c.in-Some.number, c.in-Some.event) _
    (search rules) (search rules) (search rules) (search rules)

pub returns-clause-shares : goal.returns-clause-shares
returns-clause-shares c =
    all_dealt c.args.configs.items c.args.calls.items c.loop-number.number-iterator.rest.items c.loop-number.elsewhere.items c.loop-number.shares c.loop-share.ascending.items c.loop-share.share-iterator
    (search rules) (search rules) (search rules) c.len.ensures.ordered c.loop-number.invariant
