use Rattle.std.proofs.Common.{◌∙◌, ap, arith, sym}
use Rattle.std.proofs.lemmas.Bool.{false≢true}
use Rattle.scp_spec.specs.Nodes.{is_counter_live}
use Rattle.scp_spec.proofs.Nodes.Lawful.{timeouts-of-events}
use Rattle.node_core.specs.Listening.{FiledNode}
use Rattle.node_core.proofs.Answered.{change-counter, change-no_counter, live-below, node_in}
use Rattle.node_core.proofs.Idle.{idle-counter}
use Rattle.node_core.proofs.node.Node.changed_by_ballot_timer.Goals as goal

pub returns-then-not-is_counter_live-clause-changed : goal.returns-then-not-is_counter_live-clause-changed
returns-then-not-is_counter_live-clause-changed c =
    let i = c.self.inside in
    change-no_counter i.listener i.inputs i.votes c.args.self.now.node c.args.counter (ap node_in c.self.view_is) (sym c.is_counter_live.ensures ∙ c.if-not-is_counter_live.true)

pub with_timeout-requires-clause-timeouts : goal.with_timeout-requires-clause-timeouts
with_timeout-requires-clause-timeouts c =
    let i = c.self.inside in
    let low = timeouts-of-events c.self.invariant in
    let below = live-below c.args.counter i.votes.armed i.votes.ballot _ (sym c.is_counter_live.ensures ∙ c.if-not-is_counter_live.false) in
    omega (arith, low, below)

pub returns-clause-changed : goal.returns-clause-changed
returns-clause-changed c =
    let i = c.self.inside in
    change-counter i.listener i.inputs i.votes c.args.self.now.node c.args.counter c.in_ok-changed.changed (ap node_in c.self.view_is) (sym c.is_counter_live.ensures ∙ c.if-not-is_counter_live.false) c.in_ok-changed.ensures

pub returns-in_err-changed-clause-idle : goal.returns-in_err-changed-clause-idle
returns-in_err-changed-clause-idle c = λ idle. absurd (false≢true (sym (idle-counter c.args.self.now.node c.args.counter idle) ∙ sym (ap (λ (h : FiledNode). is_counter_live h.node c.args.counter) c.self.view_is) ∙ sym c.is_counter_live.ensures ∙ c.if-not-is_counter_live.false))
