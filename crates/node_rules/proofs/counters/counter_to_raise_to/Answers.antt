use Rattle.std.proofs.Common.{◌∙◌, ℕ, None, Some, sym, subst, arith}
use Rattle.scp_voting.proofs.Honesty.{honest_from}
use Rattle.node_rules.proofs.RaiseLaws.{Raised, raised_far, raised_on, not_raised, goes_up, heard}
use Rattle.node_rules.proofs.counters.counter_to_raise_to.Goals as goal

pub loop-number-init : goal.loop-number-init
loop-number-init g c = not_raised (g.S.Sight.seen c.args.sight.now) c.args.position.now c.args.from c.args.most

pub returns-then-not-branch : goal.returns-then-not-branch
returns-then-not-branch g c = raised_far (g.S.Sight.seen c.args.sight.now) c.args.position.now c.args.from c.args.most c.loop-number.number c.loop-number.invariant (λ h. sym c.in_ok-is_blocked_from.ensures ∙ c.if-not-branch.true)

pub returns : goal.returns
returns g c = raised_far (g.S.Sight.seen c.args.sight.now) c.args.position.now c.args.from c.args.most c.loop-number.number c.loop-number.invariant (λ h. absurd (omega arith))

pub loop-number-preserved-in-None : goal.loop-number-preserved-in-None
loop-number-preserved-in-None g c =
    raised_on (g.S.Sight.seen c.args.sight.now) (honest_from (g.S.Sight.seen c.args.sight.now) (g.S.Sight.standpoint c.args.sight.now) (g.met.S.Sight.tied c.args.sight.now)) c.args.position.now c.args.from c.args.most c.loop-number.number None c.loop-number.invariant (sym c.in-None.is ∙ c.next_counter.ensures) (omega arith) (sym c.in_ok-is_blocked_from.ensures ∙ c.if-not-branch.false)

pub loop-number-preserved : goal.loop-number-preserved
loop-number-preserved g c =
    subst (λ (n : ℕ). Raised (g.S.Sight.seen c.args.sight.now) c.args.position.now c.args.from c.args.most n) (omega arith)
    (raised_on (g.S.Sight.seen c.args.sight.now) (honest_from (g.S.Sight.seen c.args.sight.now) (g.S.Sight.standpoint c.args.sight.now) (g.met.S.Sight.tied c.args.sight.now)) c.args.position.now c.args.from c.args.most c.loop-number.number (Some c.in-Some.next) c.loop-number.invariant (sym c.in-Some.is ∙ c.next_counter.ensures) (omega arith) (sym c.in_ok-is_blocked_from.ensures ∙ c.if-not-branch.false))

pub loop-number-smaller : goal.loop-number-smaller
loop-number-smaller g c =
    let up = goes_up c.loop-number.number c.args.most (heard (g.S.Sight.seen c.args.sight.now) c.args.position.now) (Some c.in-Some.next) (sym c.in-Some.is ∙ c.next_counter.ensures) (omega arith) in
    omega arith
