use Rattle.std.proofs.Common.{◌∙◌, ap, sym}
use Rattle.std.proofs.lemmas.Bool.{false≢true}
use Rattle.scp_spec.specs.Nodes.{is_round_live}
use Rattle.node_core.specs.Listening.{FiledNode}
use Rattle.node_core.proofs.Answered.{change-no_round, change-round, node_in}
use Rattle.node_core.proofs.Idle.{idle-round}
use Rattle.node_core.proofs.node.Node.changed_by_nomination_timer.Goals as goal

pub returns-then-not-is_round_live-clause-changed : goal.returns-then-not-is_round_live-clause-changed
returns-then-not-is_round_live-clause-changed c =
    let i = c.self.inside in
    change-no_round i.listener i.inputs i.votes c.args.self.now.node c.args.round (ap node_in c.self.view_is) (sym c.is_round_live.ensures ∙ c.if-not-is_round_live.true)

pub returns-clause-changed : goal.returns-clause-changed
returns-clause-changed c =
    let i = c.self.inside in
    change-round c.configuration.result.now i.listener i.inputs i.votes c.args.self.now.node c.args.round c.in_ok-changed.changed (ap node_in c.self.view_is) (sym c.is_round_live.ensures ∙ c.if-not-is_round_live.false) c.configuration.ensures c.in_ok-changed.ensures

pub returns-in_err-changed-clause-idle : goal.returns-in_err-changed-clause-idle
returns-in_err-changed-clause-idle c = λ idle. absurd (false≢true (sym (idle-round c.args.self.now.node c.args.round idle) ∙ sym (ap (λ (h : FiledNode). is_round_live h.node c.args.round) c.self.view_is) ∙ sym c.is_round_live.ensures ∙ c.if-not-is_round_live.false))
