use Rattle.std.proofs.Common.{◌∙◌, List, unwrap_or, sym, ap, subst}
use Rattle.scp_types.specs.declared.event.NodeEvent.{NodeEvent}
use Rattle.scp_types.specs.declared.event.Out.{Out}
use Rattle.scp_types.specs.declared.state.Inputs.{Inputs}
use Rattle.scp_spec.specs.Nodes.{Node}
use Rattle.scp_spec.specs.Limits.{ComesOfEvents}
use Rattle.node_store.specs.Archives.{AreFiled}
use Rattle.node_store.proofs.Growing.{keeps_all}
use Rattle.node_view.specs.Listening.{ListenerState}
use Rattle.node_core.specs.Listening.{FiledNode, node_of}
use Rattle.node_core.specs.NodeParts.{ChangesTo, IsBeforePasses}
use Rattle.node_core.proofs.Answered.{change-of, node-after, node_in, outs-after, reached-after, step-none}
use Rattle.node_core.proofs.Idle.{never}
use Rattle.node_core.proofs.StirredRows.{start-all}
use Rattle.node_core.proofs.node.Node.settle.Given.{Over}
use Rattle.node_core.proofs.node.Node.settle.Goals.{After-self}
use Rattle.node_core.proofs.node.Node.settle.Goals as goal

-- the node with what was set
abbrev changed : (g : Over) (c : After-self g) (event : NodeEvent) → ChangesTo c.args.self.now.node event c.args.changed → IsBeforePasses (node_of c.self.inside.listener c.in-Some.changed.inputs c.in-Some.changed.votes)
changed g c event made = change-of c.self.inside.listener c.self.inside.inputs c.self.inside.votes c.args.self.now.node event c.args.changed c.in-Some.changed (ap node_in c.self.view_is) c.self.invariant c.in-Some.is made

pub answer-requires-clause-start : goal.answer-requires-clause-start
answer-requires-clause-start g c = start-all _ (changed g (goal.at.answer-requires-clause-start g c).After-self c.requires.change.0 c.requires.change.1)

pub invariant_of-self : goal.invariant_of-self
invariant_of-self g c =
    let d = changed g (goal.at.invariant_of-self g c).After-self c.requires.change.0 c.requires.change.1 in
    subst (λ (x : Inputs). ComesOfEvents (node_of c.answer.new.listener x c.set_settled.new.votes)) (sym c.replace-in-Ok.ensures.after) (reached-after c.self.inside.listener c.in-Some.changed.inputs c.in-Some.changed.votes d c.answer.new.listener c.set_settled.new.votes (unwrap_or c.answer.new.settled c.in-Some.changed.votes) c.in-Ok.ensures.votes c.answer.ensures.same (c.set_settled.ensures ∙ ap (unwrap_or c.answer.new.settled) c.replace.ensures.after))

pub returns-in_default-clause-node : goal.returns-in_default-clause-node
returns-in_default-clause-node g c = λ event made. sym (ap (λ (p : Node × List Out). p.0) (step-none c.args.self.now.node event c.args.changed c.in_default.is made))

pub returns-in_default-clause-outs : goal.returns-in_default-clause-outs
returns-in_default-clause-outs g c = λ event made. c.nothing.ensures.outs ∙ sym (ap (λ (p : Node × List Out). p.1) (step-none c.args.self.now.node event c.args.changed c.in_default.is made))

pub returns-in-Ok-clause-node : goal.returns-in-Ok-clause-node
returns-in-Ok-clause-node g c = λ event made.
    let d = changed g (goal.at.returns-in-Ok-clause-node g c).After-self event made in
    ap (λ (x : Inputs). node_of c.answer.new.listener x c.set_settled.new.votes) c.replace-in-Ok.ensures.after ∙ node-after c.self.inside.listener c.in-Some.changed.inputs c.in-Some.changed.votes d c.answer.new.listener c.set_settled.new.votes (unwrap_or c.answer.new.settled c.in-Some.changed.votes) c.in-Ok.ensures.votes c.answer.ensures.same (c.set_settled.ensures ∙ ap (unwrap_or c.answer.new.settled) c.replace.ensures.after)

pub returns-in-Ok-clause-outs : goal.returns-in-Ok-clause-outs
returns-in-Ok-clause-outs g c = λ event made.
    let i = c.self.inside in
    let d = changed g (goal.at.returns-in-Ok-clause-outs g c).After-self event made in
    outs-after i.listener c.in-Some.changed.inputs c.in-Some.changed.votes d i.listener i.inputs i.votes (unwrap_or c.answer.new.settled c.in-Some.changed.votes) _ c.in-Ok.ensures.votes (ap node_in c.self.view_is) c.in-Ok.ensures.outs

pub returns-in-Ok-clause-rows : goal.returns-in-Ok-clause-rows
returns-in-Ok-clause-rows g c =
    let before = subst (λ (h : FiledNode). AreFiled c.args.archive.now h.rows) (sym c.self.view_is) c.requires.rows in
    subst (λ (h : ListenerState). AreFiled c.answer.new.archive h.table) (sym c.answer.ensures.same) (keeps_all c.args.archive.now c.answer.new.archive c.self.inside.listener.table c.answer.ensures.kept before)

pub returns-in-Err-clause-idle : goal.returns-in-Err-clause-idle
returns-in-Err-clause-idle g c = λ event made idle. absurd (never _ (changed g (goal.at.returns-in-Err-clause-idle g c).After-self event made).is idle)
