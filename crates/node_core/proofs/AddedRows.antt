-- Envelopes that are no more than rows: those of strangers, and all that reach a node which has externalized a value.
use Rattle.std.proofs.Common.{◌≡◌, ℕ, Bool, true, false, not, List, [], refl, sym, ◌∙◌, ap, subst, inl, inr}
use Rattle.std.proofs.lemmas.Bool.{cases_Bool, false≢true}
use Rattle.scp_types.specs.Statements.{Sent}
use Rattle.scp_types.specs.declared.event.NodeEvent.TheVariants.{Take}
use Rattle.scp_types.specs.declared.event.Out.{Out}
use Rattle.scp_types.specs.declared.state.Inputs.{Inputs}
use Rattle.scp_types.specs.declared.state.Phase.{Phase}
use Rattle.scp_types.specs.declared.state.Phase.TheVariants.{Preparing, Committing, Externalized}
use Rattle.scp_types.specs.declared.state.Votes.{Votes}
use Rattle.scp_spec.specs.Nodes.{Node, is_externalized, step}
use Rattle.scp_spec.specs.Passes.{pass, pass_rules, while_open}
use Rattle.scp_spec.specs.Views.{Seen, seen}
use Rattle.scp_spec.specs.Limits.{ComesOfEvents}
use Rattle.std.specs.Prelude.{IsFalse, IsTrue}
use Rattle.scp_spec.specs.Sets.{among}
use Rattle.scp_spec.specs.Rows.{is_taken, table_with_offer, with_row}
use Rattle.scp_spec.proofs.Nodes.Quiet.{row-alone, step-stale}
use Rattle.scp_spec.proofs.Nodes.Strangers.{strangers_add_rows}
use Rattle.node_view.proofs.Offers.{table_with_offer-stale, table_with_offer-taken}
use Rattle.node_view.specs.Listening.{ListenerState, IsStranger}
use Rattle.node_core.specs.Listening.{AddsRowAlone, node_of}
use Rattle.node_store.specs.Archives.{sents_of}
use Rattle.node_core.specs.NodeParts.{node_from_parts}

-- what is not so is false
pub untrue : (b : Bool) → IsTrue (not b) → b ≡ false
untrue true h = sym h
untrue false h = refl

-- ---- a stranger's
stranger-there : (h : ListenerState) (inputs : Inputs) (votes : Votes) (u : ℕ) → IsStranger h u → IsFalse (among inputs.leaders u) → ComesOfEvents (node_of h inputs votes) → AddsRowAlone (node_of h inputs votes) u
stranger-there h inputs votes u s l r = λ e from.
    let n : Node = node_of h inputs votes in
    let outside : IsFalse (among s.reach e.sender) = subst (λ w. IsFalse (among s.reach w)) (sym from) s.outside in
    let led : IsFalse (among inputs.leaders e.sender) = subst (λ w. IsFalse (among inputs.leaders w)) (sym from) l in
    elim (cases_Bool (is_taken n.table e)) [
      | inl t ↦ strangers_add_rows n s.reach e r s.is outside led t ∙ ap {B = Node × List Out} (λ (rows : List Sent). (record n { table = rows }, [])) (sym (table_with_offer-taken n.table e t))
      | inr f ↦ step-stale n e f ∙ ap {B = Node × List Out} (λ (rows : List Sent). (record n { table = rows }, [])) (sym (table_with_offer-stale n.table e f))
    ]

pub stranger-row : (n : Node) (h : ListenerState) (inputs : Inputs) (votes : Votes) (u : ℕ) → n ≡ node_of h inputs votes → IsStranger h u → IsFalse (among inputs.leaders u) → ComesOfEvents (node_of h inputs votes) → AddsRowAlone n u
stranger-row n h inputs votes u is s l r = subst (λ (m : Node). AddsRowAlone m u) (sym is) (stranger-there h inputs votes u s l r)

-- ---- after a value was externalized
open-no_more : (p : Phase) (f : Votes → Votes) (w : Votes) → is_externalized p ≡ true → while_open p f w ≡ w
open-no_more Preparing f w h = absurd (false≢true h)
open-no_more Committing f w h = absurd (false≢true h)
open-no_more Externalized f w h = refl

over-pass : (own : ℕ) (seen : Seen) (g : Inputs) (w : Votes) → is_externalized w.phase ≡ true → pass own seen g w ≡ w
unfolding pass
over-pass own seen g w h = open-no_more w.phase (pass_rules own seen g) w h

over-taken : (n : Node) (e : Sent) → is_externalized n.votes.phase ≡ true → is_taken n.table e ≡ true → step n (Take e) ≡ (record n { table = with_row e n.table }, [])
over-taken n e over t = row-alone n e t (over-pass n.name (seen n.name n.slices n.inputs.leaders (with_row e n.table)) n.inputs n.votes over)

pub over-row : (n : Node) (u : ℕ) → is_externalized n.votes.phase ≡ true → AddsRowAlone n u
over-row n u over = λ e from.
    elim (cases_Bool (is_taken n.table e)) [
      | inl t ↦ over-taken n e over t ∙ ap {B = Node × List Out} (λ (rows : List Sent). (record n { table = rows }, [])) (sym (table_with_offer-taken n.table e t))
      | inr f ↦ step-stale n e f ∙ ap {B = Node × List Out} (λ (rows : List Sent). (record n { table = rows }, [])) (sym (table_with_offer-stale n.table e f))
    ]

-- ---- the step
-- the listener after an offer
table_with_offer-to : (h k : ListenerState) (inputs : Inputs) (votes : Votes) (x : Sent) → k.configured ≡ h.configured → sents_of k.table ≡ table_with_offer (sents_of h.table) x → node_from_parts h.configured inputs votes (table_with_offer (sents_of h.table) x) ≡ node_of k inputs votes
table_with_offer-to h k inputs votes x c t = λ i. node_from_parts (sym c i) inputs votes (sym t i)

-- the step offers the envelope, and gives nothing out
pub row-step : (n : Node) (h k : ListenerState) (inputs : Inputs) (votes : Votes) (x : Sent) → n ≡ node_of h inputs votes → AddsRowAlone n x.sender → k.configured ≡ h.configured → sents_of k.table ≡ table_with_offer (sents_of h.table) x
    → step n (Take x) ≡ (node_of k inputs votes, [])
row-step n h k inputs votes x is alone c t =
    alone x refl ∙ ap {B = Node × List Out} (λ (m : Node). (record m { table = table_with_offer m.table x }, [])) is ∙ ap {B = Node × List Out} (λ (m : Node). (m, [])) (table_with_offer-to h k inputs votes x c t)
