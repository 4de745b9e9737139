use Rattle.std.proofs.Common.{◌≡◌, ◌∙◌, [], List, sym, ap, subst, unwrap_or}
use Rattle.std.proofs.lemmas.Bool.{false≢true}
use Rattle.scp_types.specs.Statements.{Sent}
use Rattle.scp_types.specs.declared.event.NodeEvent.TheVariants.{Take}
use Rattle.scp_types.specs.declared.event.Out.{Out}
use Rattle.scp_spec.specs.Nodes.{Node, step}
use Rattle.scp_spec.specs.Limits.{ComesOfEvents}
use Rattle.scp_spec.specs.Limits.ComesOfEvents.{next}
use Rattle.node_view.specs.Listening.{ListenerState}
use Rattle.node_core.specs.Listening.{AddsRowAlone, node_of}
use Rattle.node_store.specs.Archives.{sent_of, sents_of}
use Rattle.node_core.proofs.Answered.{node_in, change-put, node-after, outs-after, reached-after, stale-put}
use Rattle.node_core.proofs.Idle.{idle-stale, never}
use Rattle.node_core.proofs.AddedRows.{row-step}
use Rattle.node_table.specs.declared.table.Put.{Put}
use Rattle.node_table.specs.Puts.{IsPut}
use Rattle.node_view.proofs.Offers.{first-taken, put-takes}
use Rattle.node_core.specs.NodeParts.{IsBeforePasses}
use Rattle.node_core.proofs.StirredRows.{start-row}
use Rattle.node_core.proofs.node.Node.take.Given.{Over}
use Rattle.node_core.proofs.node.Node.take.Goals.{In_ok-offer, In-Added}
use Rattle.node_core.proofs.node.Node.take.Goals as goal

-- the step adds the row alone
row : (g : Over) (c : In_ok-offer g) → step c.args.self.now.node (Take (sent_of c.args.envelope)) ≡ (node_of c.offer.new.self c.self.inside.inputs c.self.inside.votes, [])
row g c =
    let i = c.self.inside in
    let alone = subst (AddsRowAlone c.args.self.now.node) (c.sender-sender.ensures.value ∙ ap (λ (x : Sent). x.sender) c.read.ensures) (c.adds_row_alone.ensures c.if-adds_row_alone.true) in
    row-step c.args.self.now.node i.listener c.offer.new.self i.inputs i.votes (sent_of c.args.envelope) (sym (ap node_in c.self.view_is)) alone c.offer.ensures.same c.in_ok-offer.ensures.offered

pub invariant_of-self : goal.invariant_of-self
invariant_of-self g c = subst (λ (h : ListenerState). ComesOfEvents (node_of h c.self.inside.inputs c.self.inside.votes)) (sym c.in_err-offer.ensures.err) c.self.invariant

pub invariant_of-self-then-adds_row_alone : goal.invariant_of-self-then-adds_row_alone
invariant_of-self-then-adds_row_alone g c =
    let before = subst ComesOfEvents (ap node_in c.self.view_is) c.self.invariant in
    subst (λ (p : Node × List Out). ComesOfEvents p.0) (row g (goal.at.invariant_of-self-then-adds_row_alone g c).In_ok-offer) (next before (Take (sent_of c.args.envelope)))

pub returns-then-adds_row_alone-clause-node : goal.returns-then-adds_row_alone-clause-node
returns-then-adds_row_alone-clause-node g c = sym (ap (λ (p : Node × List Out). p.0) (row g (goal.at.returns-then-adds_row_alone-clause-node g c).In_ok-offer))

pub returns-then-adds_row_alone-clause-outs : goal.returns-then-adds_row_alone-clause-outs
returns-then-adds_row_alone-clause-outs g c = c.nothing.ensures.outs ∙ sym (ap (λ (p : Node × List Out). p.1) (row g (goal.at.returns-then-adds_row_alone-clause-outs g c).In_ok-offer))

pub returns-in_err-offer-clause-idle : goal.returns-in_err-offer-clause-idle
returns-in_err-offer-clause-idle g c = λ idle.
    let i = c.self.inside in
    let stale = idle-stale i.listener.configured i.inputs i.votes (sents_of i.listener.table) c.args.self.now.node (sent_of c.args.envelope) (sym (ap node_in c.self.view_is)) idle in
    absurd (false≢true (c.in_err-offer.ensures.idle stale))

-- the node with the row
abbrev changed : (g : Over) (c : In-Added g) → IsBeforePasses (node_of c.put_row-put.new.listener c.self.inside.inputs c.self.inside.votes)
changed g c =
    let i = c.self.inside in
    record {
      before = c.args.self.now.node;
      event = Take (sent_of c.args.envelope);
      reached = subst ComesOfEvents (ap node_in c.self.view_is) c.self.invariant;
      is = change-put i.listener c.put_row-put.new.listener i.inputs i.votes c.args.self.now.node (sent_of c.args.envelope) c.put_row-put.result.0 (ap node_in c.self.view_is) c.put_row-put.ensures.put c.put_row-put.ensures.same c.in-Added.is;
    }

pub answer_anew-requires-clause-start : goal.answer_anew-requires-clause-start
answer_anew-requires-clause-start g c =
    let i = c.self.inside in
    let x = sent_of c.args.envelope in
    let taken = put-takes i.listener.table c.put_row-put.new.listener.table x c.put_row-put.result.0 c.put_row-put.ensures.put c.in-Added.is in
    let d = changed g (goal.at.answer_anew-requires-clause-start g c).In-Added in
    start-row i.listener c.put_row-put.new.listener i.inputs i.votes x c.put_row-put.result.1 c.self.invariant c.put_row-put.ensures.same taken.1 d c.put_row-put.ensures.stirs

pub invariant_of-self-in-Ok : goal.invariant_of-self-in-Ok
invariant_of-self-in-Ok g c =
    let i = c.self.inside in
    let d = changed g (goal.at.invariant_of-self-in-Ok g c).In-Added in
    reached-after c.put_row-put.new.listener i.inputs i.votes d c.answer_anew.new.listener c.set_settled.new.votes (unwrap_or c.answer_anew.new.settled i.votes) c.in-Ok.ensures.votes c.answer_anew.ensures.same c.set_settled.ensures

pub returns-in-Stale-clause-node : goal.returns-in-Stale-clause-node
returns-in-Stale-clause-node g c =
    let i = c.self.inside in
    sym (ap (λ (p : Node × List Out). p.0) (stale-put i.listener c.put_row-put.new.listener i.inputs i.votes c.args.self.now.node (sent_of c.args.envelope) c.put_row-put.result.0 (ap node_in c.self.view_is) c.put_row-put.ensures.put c.put_row-put.ensures.same c.in-Stale.is))

pub returns-in-Stale-clause-outs : goal.returns-in-Stale-clause-outs
returns-in-Stale-clause-outs g c =
    let i = c.self.inside in
    c.nothing-in-Stale.ensures.outs ∙ sym (ap (λ (p : Node × List Out). p.1) (stale-put i.listener c.put_row-put.new.listener i.inputs i.votes c.args.self.now.node (sent_of c.args.envelope) c.put_row-put.result.0 (ap node_in c.self.view_is) c.put_row-put.ensures.put c.put_row-put.ensures.same c.in-Stale.is))

pub returns-in-Ok-clause-node : goal.returns-in-Ok-clause-node
returns-in-Ok-clause-node g c =
    let i = c.self.inside in
    let d = changed g (goal.at.returns-in-Ok-clause-node g c).In-Added in
    node-after c.put_row-put.new.listener i.inputs i.votes d c.answer_anew.new.listener c.set_settled.new.votes (unwrap_or c.answer_anew.new.settled i.votes) c.in-Ok.ensures.votes c.answer_anew.ensures.same c.set_settled.ensures

pub returns-in-Ok-clause-outs : goal.returns-in-Ok-clause-outs
returns-in-Ok-clause-outs g c =
    let i = c.self.inside in
    let d = changed g (goal.at.returns-in-Ok-clause-outs g c).In-Added in
    outs-after c.put_row-put.new.listener i.inputs i.votes d i.listener i.inputs i.votes (unwrap_or c.answer_anew.new.settled i.votes) _ c.in-Ok.ensures.votes (ap node_in c.self.view_is) c.in-Ok.ensures.outs

pub returns-in-NoMemory-clause-idle : goal.returns-in-NoMemory-clause-idle
returns-in-NoMemory-clause-idle g c = λ idle.
    let i = c.self.inside in
    let stale = idle-stale i.listener.configured i.inputs i.votes (sents_of i.listener.table) c.args.self.now.node (sent_of c.args.envelope) (sym (ap node_in c.self.view_is)) idle in
    absurd (false≢true (sym stale ∙ first-taken (sents_of i.listener.table) (sent_of c.args.envelope) (subst (λ (p : Put). IsPut c.self.inside.listener.table (sent_of c.args.envelope) p c.put_row-put.new.listener.table) c.in-NoMemory.is c.put_row-put.ensures.put).0))

pub returns-in-Err-clause-idle : goal.returns-in-Err-clause-idle
returns-in-Err-clause-idle g c = λ idle. absurd (never _ (changed g (goal.at.returns-in-Err-clause-idle g c).In-Added).is idle)
