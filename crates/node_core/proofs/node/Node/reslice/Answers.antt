use Rattle.std.proofs.Common.{◌∙◌, unwrap_or, sym, ap, subst}
use Rattle.scp_types.specs.declared.event.NodeEvent.TheVariants.{Reslice}
use Rattle.scp_spec.specs.Limits.{ComesOfEvents}
use Rattle.node_store.specs.Archives.{AreFiled}
use Rattle.node_store.proofs.Growing.{keeps_all}
use Rattle.node_view.specs.Listening.{ListenerState}
use Rattle.node_core.specs.Listening.{FiledNode, node_of}
use Rattle.node_core.specs.NodeParts.{IsBeforePasses}
use Rattle.node_core.proofs.Answered.{change-slices, node-after, node_in, outs-after, reached-after}
use Rattle.node_core.proofs.StirredRows.{start-all}
use Rattle.node_core.proofs.node.Node.reslice.Given.{Over}
use Rattle.node_core.proofs.node.Node.reslice.Goals.{After-exchange_slices-old_slices}
use Rattle.node_core.proofs.node.Node.reslice.Goals as goal

-- the node with the new slices
abbrev changed : (g : Over) (c : After-exchange_slices-old_slices g) → IsBeforePasses (node_of c.exchange_slices-old_slices.new.self c.self.inside.inputs c.self.inside.votes)
changed g c =
    let i = c.self.inside in
    record {
      before = c.args.self.now.node;
      event = Reslice c.args.slices;
      reached = subst ComesOfEvents (ap node_in c.self.view_is) c.self.invariant;
      is = change-slices i.listener c.exchange_slices-old_slices.new.self i.inputs i.votes c.args.self.now.node c.args.slices (ap node_in c.self.view_is) c.exchange_slices-old_slices.ensures.now;
    }

pub answer_anew-requires-clause-start : goal.answer_anew-requires-clause-start
answer_anew-requires-clause-start g c = start-all _ (changed g (goal.at.answer_anew-requires-clause-start g c).After-exchange_slices-old_slices)

pub invariant_of-self : goal.invariant_of-self
invariant_of-self g c =
    let i = c.self.inside in
    let d = changed g (goal.at.invariant_of-self g c).After-exchange_slices-old_slices in
    reached-after c.exchange_slices-old_slices.new.self i.inputs i.votes d c.answer_anew.new.listener c.set_settled.new.votes (unwrap_or c.answer_anew.new.settled i.votes) c.in-Ok.ensures.votes c.answer_anew.ensures.same c.set_settled.ensures

pub returns-in-Ok-clause-node : goal.returns-in-Ok-clause-node
returns-in-Ok-clause-node g c =
    let i = c.self.inside in
    let d = changed g (goal.at.returns-in-Ok-clause-node g c).After-exchange_slices-old_slices in
    node-after c.exchange_slices-old_slices.new.self i.inputs i.votes d c.answer_anew.new.listener c.set_settled.new.votes (unwrap_or c.answer_anew.new.settled i.votes) c.in-Ok.ensures.votes c.answer_anew.ensures.same c.set_settled.ensures

pub returns-in-Ok-clause-outs : goal.returns-in-Ok-clause-outs
returns-in-Ok-clause-outs g c =
    let i = c.self.inside in
    let d = changed g (goal.at.returns-in-Ok-clause-outs g c).After-exchange_slices-old_slices in
    outs-after c.exchange_slices-old_slices.new.self i.inputs i.votes d i.listener i.inputs i.votes (unwrap_or c.answer_anew.new.settled i.votes) _ c.in-Ok.ensures.votes (ap node_in c.self.view_is) c.in-Ok.ensures.outs

pub returns-in-Ok-clause-rows : goal.returns-in-Ok-clause-rows
returns-in-Ok-clause-rows g c =
    let i = c.self.inside in
    let before = subst (λ (h : FiledNode). AreFiled c.args.archive.now h.rows) (sym c.self.view_is) c.requires.rows in
    let kept = keeps_all c.args.archive.now c.answer_anew.new.archive i.listener.table c.answer_anew.ensures.kept before in
    subst (λ (h : ListenerState). AreFiled c.answer_anew.new.archive h.table) (sym (c.answer_anew.ensures.same ∙ c.exchange_slices-old_slices.ensures.now)) kept
