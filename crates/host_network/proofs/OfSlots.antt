-- A node of a slot keeps rows of that slot alone, and emits at that slot alone.
use Rattle.std.proofs.Common.{◌≡◌, ℕ, zero, suc, ◌+◌, Bool, true, false, not, ◌&&◌, ◌==◌, List, [], ◌∷◌, ◌++◌, map, filter, cond, Option, Some, None, if◌then◌else◌, is_none, slice_get, refl, sym, subst}
use Rattle.std.specs.List.{AllByRecursion}
use Rattle.std.specs.Prelude.{⊤}
use Rattle.std.proofs.lemmas.Bool.{eqb-true}
use Rattle.std.proofs.lemmas.List.Elements.{filter_map-append}
use Rattle.scp_types.specs.Statements.{Sent, kind_of}
use Rattle.scp_types.specs.declared.ballot.Ballot.{Ballot}
use Rattle.scp_types.specs.declared.event.NodeEvent.{NodeEvent}
use Rattle.scp_types.specs.declared.event.NodeEvent.TheVariants.{Propose, Take, NominationTimer, BallotTimer, Reslice}
use Rattle.scp_types.specs.declared.event.Out.{Out}
use Rattle.scp_types.specs.declared.event.Out.TheVariants.{ArmNomination, ArmBallot, Emit}
use Rattle.scp_types.specs.declared.kind.Kind.{Kind}
use Rattle.scp_types.specs.declared.statement.Statement.{Statement}
use Rattle.scp_spec.specs.Rows.{is_kind, is_row_of, is_taken, with_row}
use Rattle.scp_spec.specs.Sameness.{same_sent}
use Rattle.scp_spec.specs.States.{counter_of, sent_nomination, sent_vote}
use Rattle.scp_spec.specs.Nodes.{Node, after_change, after_pass, change, emission_between, externalization, fresh, in_round, is_externalized, node_and_outs, outs, step, when, with_timeout}
use Rattle.scp_spec.specs.Networks.{HostedNode, Instance, Net, Slot, Step, act, act_in, act_known, after_event, effect, emission, emission_of, emissions, instances_at, instances_of_new_slot, node_named, node_where_open}
use Rattle.scp_spec.specs.Networks.Reading.{Read, Fault}
use Rattle.scp_spec.specs.Networks.Step.{Opens, Closes, Proposes, Delivers, Hears, NominationTimerFires, BallotTimerFires, Reslices}
use Rattle.scp_spec.proofs.Nodes.Made.{if_node, if_node-if, step-keeps, with_settled_votes-keeps}
use Rattle.host_network.specs.Standing.{IsOfSlot}
use Rattle.host_network.proofs.Tidiness.{filter-names, push-names}

-- ---- a node
abbrev AreOf : ℕ → List Sent → Type 0
AreOf i es = AllByRecursion (λ e. e.slot ≡ i) es

record IsNodeOfSlot (i : ℕ) (n : Node) : Type 0 where
  slot : n.slot ≡ i
  rows : AreOf i n.table

-- what it is handed is of that slot
abbrev IsEventOfSlot : ℕ → NodeEvent → Type 0
IsEventOfSlot i (Take e) = e.slot ≡ i
IsEventOfSlot i _ = ⊤

row-more : (i : ℕ) (e : Sent) (table : List Sent) → e.slot ≡ i → AreOf i table → AreOf i (with_row e table)
unfolding with_row
row-more i e [] h a = (h, tt)
row-more i e (x ∷ xs) h a = go (is_row_of e.sender (kind_of e.body) x) (row-more i e xs h a.1)
  where
    go : (b : Bool) → AreOf i (with_row e xs) → AreOf i (if b then e ∷ xs else x ∷ with_row e xs)
    go true k = (h, a.1)
    go false k = (a.0, k)

of-change : (i : ℕ) (n : Node) (e : NodeEvent) → IsNodeOfSlot i n → IsEventOfSlot i e → if_node (IsNodeOfSlot i) (change n e)
unfolding change
of-change i n (Propose x) h q = record { slot = h.slot; rows = h.rows }
of-change i n (Take e) h q = if_node-if (IsNodeOfSlot i) (is_taken n.table e) (record n { table = with_row e n.table }) (record { slot = h.slot; rows = row-more i e n.table q h.rows })
of-change i n (NominationTimer r) h q = if_node-if (IsNodeOfSlot i) _ (in_round n (r + 1)) (record { slot = h.slot; rows = h.rows })
of-change i n (BallotTimer c) h q = if_node-if (IsNodeOfSlot i) _ (with_timeout n) (record { slot = h.slot; rows = h.rows })
of-change i n (Reslice s) h q = record { slot = h.slot; rows = h.rows }

voted : (i : ℕ) (n : Node) → IsNodeOfSlot i n → IsNodeOfSlot i (record n { votes = after_pass n n.votes })
voted i n h = record { slot = h.slot; rows = h.rows }

-- ---- what is emitted
push-of : (i : ℕ) (xs ys : List Sent) → AreOf i xs → AreOf i ys → AreOf i (xs ++ ys)
push-of i [] ys h k = k
push-of i (x ∷ xs) ys h k = (h.0, push-of i xs ys h.1 k)

record Emits (i : ℕ) (os : List Out) : Type 0 where
  all : AreOf i (emissions os)

both : (i : ℕ) {xs ys : List Out} → Emits i xs → Emits i ys → Emits i (xs ++ ys)
both i {xs} {ys} h k = record { all = subst (AreOf i) (sym (filter_map-append emission_of xs ys)) (push-of i (emissions xs) (emissions ys) h.all k.all) }

outs-of : (i : ℕ) (old new : Node) → new.slot ≡ i → Emits i (outs old new)
unfolding outs
outs-of i old new h =
    both i (both i (both i (both i
    (armed (not (new.inputs.round == old.inputs.round) && is_none new.votes.confirmed_prepared) (ArmNomination new.inputs.round) tt)
    (armed (not (new.votes.armed == old.votes.armed) && (new.votes.armed == counter_of new.votes.ballot) && not (is_externalized new.votes.phase)) (ArmBallot new.votes.armed) tt))
    (sent (sent_nomination old.votes) (sent_nomination new.votes)))
    (sent (sent_vote old.votes) (sent_vote new.votes)))
    (last (is_externalized new.votes.phase && not (is_externalized old.votes.phase)) new.votes.ballot)
  where
    armed : (b : Bool) (o : Out) → AreOf i (emissions (o ∷ [])) → Emits i (when b o)
    armed true o q = record { all = q }
    armed false o q = record { all = tt }

    sent : (before after : Option Statement) → Emits i (emission_between new before after)
    sent a None = record { all = tt }
    sent a (Some s) = go (same_sent a (Some s))
      where
        go : (b : Bool) → Emits i (if b then [] else Emit (record { sender = new.name; slot = new.slot; slices = new.slices; body = s }) ∷ [])
        go true = record { all = tt }
        go false = record { all = (h, tt) }

    last : (b : Bool) (o : Option Ballot) → Emits i (if b then externalization o else [])
    last true None = record { all = tt }
    last true (Some b) = record { all = tt }
    last false o = record { all = tt }

step-of : (i : ℕ) (n : Node) (e : NodeEvent) → IsNodeOfSlot i n → IsEventOfSlot i e → AreOf i (emissions (step n e).1)
unfolding step
step-of i n e h q = go (after_change (change n e)) (with_settled_votes-keeps (IsNodeOfSlot i) (voted i) (change n e) (of-change i n e h q))
  where
    go : (o : Option Node) → if_node (IsNodeOfSlot i) o → AreOf i (emissions (node_and_outs n o).1)
    go None k = tt
    go (Some m) k = (outs-of i n m k.slot).all

-- ---- at a slot
of-after_event : (i : ℕ) (e : NodeEvent) (p : Instance) → IsEventOfSlot i e → IsOfSlot i p → IsOfSlot i (after_event e p)
unfolding after_event
of-after_event i e p q h =
    let n : IsNodeOfSlot i p.node = record { slot = h.node; rows = h.rows } in
    let m = step-keeps (IsNodeOfSlot i) (voted i) p.node e n (of-change i p.node e n q) in
    record { node = m.slot; rows = m.rows; emitted = push-of i p.emitted (emissions (step p.node e).1) h.emitted (step-of i p.node e n q) }

-- each node of each slot is of that slot
abbrev pub AreOfSlots : List Slot → Type 0
AreOfSlots slots = AllByRecursion (λ s. AllByRecursion (IsOfSlot s.number) s.instances) slots

act-in-of : (i u : ℕ) (e : NodeEvent) (ps : List Instance) → IsEventOfSlot i e → AllByRecursion (IsOfSlot i) ps → AllByRecursion (IsOfSlot i) (act_in u e ps)
act-in-of i u e [] q h = tt
act-in-of i u e (p ∷ ps) q h = (one (p.node.name == u), act-in-of i u e ps q h.1)
  where
    one : (b : Bool) → IsOfSlot i (if b then after_event e p else p)
    one true = of-after_event i e p q h.0
    one false = h.0

acted-of : (i u : ℕ) (e : NodeEvent) (slots : List Slot) → IsEventOfSlot i e → AreOfSlots slots → AreOfSlots (map {B = Slot} (λ (s : Slot). if s.number == i then record s { instances = act_in u e s.instances } else s) slots)
acted-of i u e [] q h = tt
acted-of i u e (s ∷ ss) q h = (one (s.number == i) refl, acted-of i u e ss q h.1)
  where
    one : (b : Bool) → (s.number == i) ≡ b → AllByRecursion (IsOfSlot (if b then record s { instances = act_in u e s.instances } else s).number) (if b then record s { instances = act_in u e s.instances } else s).instances
    one true t = act-in-of s.number u e s.instances (subst (λ n. IsEventOfSlot n e) (sym (eqb-true s.number i t)) q) h.0
    one false t = h.0

of-act : (net : Net) (i u : ℕ) (e : NodeEvent) → IsEventOfSlot i e → AreOfSlots net.slots → AreOfSlots (act net i u e).0.slots
unfolding act
of-act net i u e q h = acted-of i u e net.slots q h

-- what was emitted at a slot
abbrev IfAll : ℕ → Option (List Instance) → Type 0
IfAll i None = ⊤
IfAll i (Some ps) = AllByRecursion (IsOfSlot i) ps

abbrev IfOf : ℕ → Option Sent → Type 0
IfOf i None = ⊤
IfOf i (Some e) = e.slot ≡ i

abbrev IfOne : ℕ → Option Instance → Type 0
IfOne i None = ⊤
IfOne i (Some p) = IsOfSlot i p

at-slot : (slots : List Slot) (i : ℕ) → AreOfSlots slots → IfAll i (instances_at slots i)
at-slot [] i h = tt
at-slot (s ∷ ss) i h = go (s.number == i) refl (at-slot ss i h.1)
  where
    go : (b : Bool) → (s.number == i) ≡ b → IfAll i (instances_at ss i) → IfAll i (if b then Some s.instances else instances_at ss i)
    go true t k = subst (λ n. AllByRecursion (IsOfSlot n) s.instances) (eqb-true s.number i t) h.0
    go false t k = k

named-of : (i u : ℕ) (ps : List Instance) → AllByRecursion (IsOfSlot i) ps → IfOne i (node_named ps u)
named-of i u [] h = tt
named-of i u (p ∷ ps) h = go (p.node.name == u) (named-of i u ps h.1)
  where
    go : (b : Bool) → IfOne i (node_named ps u) → IfOne i (if b then Some p else node_named ps u)
    go true k = h.0
    go false k = k

where-open : (i u : ℕ) (o : Option (List Instance)) → IfAll i o → IfOne i (node_where_open o u)
where-open i u None h = tt
where-open i u (Some ps) h = named-of i u ps h

filtered-of : (i : ℕ) (test : Sent → Bool) (es : List Sent) → AreOf i es → AreOf i (filter test es)
filtered-of i test [] h = tt
filtered-of i test (e ∷ es) h = go (test e) (filtered-of i test es h.1)
  where
    go : (b : Bool) → AreOf i (filter test es) → AreOf i (cond b (e ∷ filter test es) (filter test es))
    go true k = (h.0, k)
    go false k = k

read-of : (i k : ℕ) (es : List Sent) → AreOf i es → IfOf i (slice_get es k)
read-of i k [] h = tt
read-of i zero (e ∷ es) h = h.0
read-of i (suc k) (e ∷ es) h = read-of i k es h.1

emission-of : (i k : ℕ) (kind : Kind) (o : Option Instance) → IfOne i o → IfOf i (emission o kind k)
emission-of i k kind None h = tt
emission-of i zero kind (Some p) h = tt
emission-of i (suc k) kind (Some p) h = read-of i k (filter (λ e. is_kind kind (kind_of e.body)) p.emitted) (filtered-of i (λ e. is_kind kind (kind_of e.body)) p.emitted h.emitted)

of-act_known : (net : Net) (i u : ℕ) (o : Option Sent) → IfOf i o → AreOfSlots net.slots → AreOfSlots (act_known net i u o).0.slots
of-act_known net i u None q h = h
of-act_known net i u (Some e) q h = of-act net i u (Take e) q h

fresh-of-slot : (i : ℕ) (nodes : List HostedNode) → AllByRecursion (IsOfSlot i) (instances_of_new_slot nodes i)
unfolding instances_of_new_slot fresh
fresh-of-slot i [] = tt
fresh-of-slot i (h ∷ hs) = (record { node = refl; rows = tt; emitted = tt }, fresh-of-slot i hs)

abbrev AreThere : Slot → Type 0
AreThere s = AllByRecursion (IsOfSlot s.number) s.instances

-- ---- any event
pub of-slots : (net : Net) (e : Step) → AreOfSlots net.slots → AreOfSlots (effect net e).0.slots
unfolding effect
of-slots net (Opens i) h = push-names AreThere net.slots (record { number = i; instances = instances_of_new_slot net.nodes i }) h (fresh-of-slot i net.nodes)
of-slots net (Closes i) h = filter-names AreThere (λ s. not (s.number == i)) net.slots h
of-slots net (Proposes i u x) h = of-act net i u (Propose x) tt h
of-slots net (Delivers u size (Read e)) h = of-act net e.slot u (Take e) refl h
of-slots net (Delivers u size (Fault m)) h = h
of-slots net (Hears i u from kind k) h =
    of-act_known net i u (emission (node_where_open (instances_at net.slots i) from) kind k) (emission-of i k kind (node_where_open (instances_at net.slots i) from) (where-open i from (instances_at net.slots i) (at-slot net.slots i h))) h
of-slots net (NominationTimerFires i u r) h = of-act net i u (NominationTimer r) tt h
of-slots net (BallotTimerFires i u c) h = of-act net i u (BallotTimer c) tt h
of-slots net (Reslices i u q) h = of-act net i u (Reslice q) tt h
