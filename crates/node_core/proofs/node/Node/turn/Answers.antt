use Rattle.std.proofs.Common.{◌∙◌, ap, option_map, sym}
use Rattle.scp_spec.specs.Nodes.{change}
use Rattle.node_core.specs.declared.filed.FiledEvent.{FiledEvent}
use Rattle.node_core.specs.Filings.{event_of}
use Rattle.node_core.specs.NodeParts.{ChangesTo, with_changed}
use Rattle.node_core.proofs.Idle.{propose-changes, reslice-changes}
use Rattle.node_core.proofs.node.Node.turn.Given.{Over}
use Rattle.node_core.proofs.node.Node.turn.Goals.{Joined-event, in-Propose+in_ok-changed_by_proposal-in-Propose, in-NominationTimer+in_ok-changed-in-NominationTimer, in-BallotTimer+in_ok-changed-in-BallotTimer}
use Rattle.node_core.proofs.node.Node.turn.Goals as goal

-- what the event itself changes
own : (g : Over) (c : Joined-event g) → ChangesTo c.args.self.now.node (event_of c.args.event) c.match-event.changed
own g c = elim c.match-event.branch [
  | in-Propose+in_ok-changed_by_proposal-in-Propose w ↦ ap (λ (x : FiledEvent). change c.args.self.now.node (event_of x)) w.in-Propose.is ∙ w.in_ok-changed_by_proposal-in-Propose.ensures ∙ ap (option_map (with_changed c.args.self.now.node)) (sym w.changed-is)
  | in-NominationTimer+in_ok-changed-in-NominationTimer w ↦ ap (λ (x : FiledEvent). change c.args.self.now.node (event_of x)) w.in-NominationTimer.is ∙ w.in_ok-changed-in-NominationTimer.ensures.changed ∙ ap (option_map (with_changed c.args.self.now.node)) (sym w.changed-is)
  | in-BallotTimer+in_ok-changed-in-BallotTimer w ↦ ap (λ (x : FiledEvent). change c.args.self.now.node (event_of x)) w.in-BallotTimer.is ∙ w.in_ok-changed-in-BallotTimer.ensures.changed ∙ ap (option_map (with_changed c.args.self.now.node)) (sym w.changed-is)
]

pub settle-requires-clause-change : goal.settle-requires-clause-change
settle-requires-clause-change g c = (event_of c.args.event, own g (goal.at.settle-requires-clause-change g c).Joined-event)

pub returns-clause-node : goal.returns-clause-node
returns-clause-node g c = c.settle.ensures.node (event_of c.args.event) (own g (goal.at.returns-clause-node g c).Joined-event)

pub returns-clause-outs : goal.returns-clause-outs
returns-clause-outs g c = c.settle.ensures.outs (event_of c.args.event) (own g (goal.at.returns-clause-outs g c).Joined-event)

pub returns-clause-idle : goal.returns-clause-idle
returns-clause-idle g c = c.settle.ensures.idle (event_of c.args.event) (own g (goal.at.returns-clause-idle g c).Joined-event)

pub returns-in_err-changed_by_proposal-in-Propose-clause-idle : goal.returns-in_err-changed_by_proposal-in-Propose-clause-idle
returns-in_err-changed_by_proposal-in-Propose-clause-idle g c = λ e. absurd (propose-changes c.args.self.now.node c.in-Propose.value (ap (λ (x : FiledEvent). change c.args.self.now.node (event_of x)) (sym c.in-Propose.is) ∙ e))

pub returns-in-Reslice-clause-idle : goal.returns-in-Reslice-clause-idle
returns-in-Reslice-clause-idle g c = λ e. absurd (reslice-changes c.args.self.now.node c.in-Reslice.slices (ap (λ (x : FiledEvent). change c.args.self.now.node (event_of x)) (sym c.in-Reslice.is) ∙ e))
