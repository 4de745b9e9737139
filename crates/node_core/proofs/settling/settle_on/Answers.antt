use Rattle.std.proofs.Common.{◌≡◌, ◌∙◌, ℕ, ◌-◌, ◌+◌, sym, ap, subst, arith}
use Rattle.scp_types.specs.declared.state.Votes.{Votes}
use Rattle.scp_spec.specs.Nodes.{settle, most_passes}
use Rattle.scp_spec.specs.Passes.{balloted_in}
use Rattle.node_core.specs.Differences.{IsDifference}
use Rattle.node_core.proofs.Settles.{settle-same, settle-other, settle-end}
use Rattle.node_core.proofs.settling.settle_on.Goals as goal

pub returns-in-None : goal.returns-in-None
returns-in-None g c =
    let f = balloted_in (g.S.Sight.seen c.args.context.now.sight.now) c.args.context.now.inputs.now in
    let w = c.loop-number.votes in
    let same = subst (IsDifference w (f w)) c.in-None.is c.in_ok-change_by.ensures in
    sym (settle-same c.loop-number.number f w (omega arith) same) ∙ c.loop-number.invariant

pub loop-number-preserved : goal.loop-number-preserved
loop-number-preserved g c =
    let f = balloted_in (g.S.Sight.seen c.args.context.now.sight.now) c.args.context.now.inputs.now in
    let w = c.loop-number.votes in
    let made = subst (IsDifference w (f w)) c.in-Some.is c.in_ok-change_by.ensures in
    ap (λ (u : Votes). settle (most_passes - (c.loop-number.number + 1)) f u) (c.set_settled.ensures ∙ made.0) ∙ sym (settle-other c.loop-number.number f w (omega arith) made.1) ∙ c.loop-number.invariant

pub returns : goal.returns
returns g c =
    let f = balloted_in (g.S.Sight.seen c.args.context.now.sight.now) c.args.context.now.inputs.now in
    let w = c.loop-number.votes in
    let at : c.loop-number.number ≡ most_passes = omega arith in
    sym (settle-end f w) ∙ ap (λ (n : ℕ). settle (most_passes - n) f w) (sym at) ∙ c.loop-number.invariant
