-- From a deed to the step of the network.
use Rattle.node_store.specs.Archives.{Archived}
use Rattle.std.proofs.Common.{◌≡◌, ℕ, zero, suc, ◌<◌, ◌≤◌, ◌+◌, ◌^◌, Bool, true, false, not, ◌||◌, ◌==◌, length, take, drop, List, [], ◌∷◌, ◌++◌, map, slice_get, Option, Some, None, option_map, if◌then◌else◌, refl, sym, ◌∙◌, ap, ap₂, subst, inl, inr, arith}
use Rattle.std.specs.List.{All, AllByRecursion, list_any, remove}
use Rattle.std.proofs.lemmas.Bool.{false≢true, and_parts, eqb-true}
use Rattle.std.proofs.lemmas.List.{map-append}
use Rattle.std.proofs.lemmas.List.Elements.{All-append, All-cons, All-drop, All-head, All-map, All-nil, All-tail, All-take, All-weaker}
use Rattle.scp_types.specs.Statements.{Sent}
use Rattle.scp_types.specs.Trees.{all_differ}
use Rattle.scp_types.specs.declared.event.NodeEvent.{NodeEvent}
use Rattle.scp_types.specs.declared.event.Out.{Out}
use Rattle.scp_spec.specs.Networks.{Net, Instance, Reply, Slot, Step, effect, emissions, first_that, is_open, node_where_open, after_event, net_step, on_budgets, on_opens, node_named, instances_at, state_and_reply, size_of, source, tests}
use Rattle.scp_spec.specs.Networks.Reply.{Done}
use Rattle.scp_spec.specs.Networks.Step.{Opens, Closes, Proposes, Delivers, Hears, NominationTimerFires, BallotTimerFires, Reslices}
use Rattle.scp_spec.specs.Rosters.{Draw, Roster, Share, Source, bytes_drawn, events_drawn}
use Rattle.scp_spec.specs.Rosters.Share.{Own, Pair}
use Rattle.scp_spec.specs.Counts.{HasRoomForBytes, HasRoomForEvents, HasRoom, IsCountedAfter, is_of_share, is_opening}
use Rattle.scp_spec.proofs.Networks.Refusals.{applied_where_room}
use Rattle.scp_spec.proofs.Networks.Counts.{next}
use Rattle.scp_spec.proofs.Networks.Effects.{effect-keeps}
use Rattle.scp_spec.proofs.Networks.Room.{room-bytes, room-events}
use Rattle.scp_spec.proofs.Networks.Drawn.{steps_are_counted}
use Rattle.node_core.specs.Filings.{event_of}
use Rattle.host_config.specs.Configs.{index_in, names_of}
use Rattle.host_config.specs.Budgets.{AreShares}
use Rattle.host_network.specs.Answers.{IsApplied, IsOutcome}
use Rattle.host_network.specs.Changes.{IsChangedAt, changed_at}
use Rattle.host_network.specs.Charges.{HasReadyNode, HasRoomInCounts, HasRoomOnNetwork, IsActed, IsSlotActed, on_budgets_of, on_opens_of}
use Rattle.host_network.specs.Deeds.{IsDrawn, IsEventOf, IsNodeOf, IsPlan, IsThere, slots_after_event, envelope_to_file, instance_at, outs_of_deed, slots_after}
use Rattle.host_network.specs.Doings.{IsDoable, IsDone, marks_after, slots_of}
use Rattle.host_network.specs.FiledSlots.{AreTallied, CountedInstance, CountedSlot, FiledInstance, FiledSlot, IsInstanceFiled, IsTallied, HasDrawnNothing, bytes_from, counted_instance, counted_slot, events_from, instance_of_filed, slot_of}
use Rattle.host_network.specs.Marks.{marks_in, numbers_by_kind, slot_and_node_of, emitted_at, emitted_before}
use Rattle.host_network.specs.Standing.{IsOfSlot, IsStanding, IsStep, IsTidy, Machine, FiledMachine, StandsFor, machine_of, net_of}
use Rattle.host_network.specs.declared.applied.Outcome.{Outcome}
use Rattle.host_network.specs.declared.plan.Charge.{Charge}
use Rattle.host_network.specs.declared.plan.Deed.{Deed}
use Rattle.host_network.specs.declared.plan.Deed.TheVariants.{Open, Close, Act, Hand}
use Rattle.host_network.specs.declared.plan.Drawn.{Drawn}
use Rattle.host_network.specs.declared.plan.Drawn.TheVariants.{Budgets as ByBudgets, Opens as ByOpens, Own as ByOwn, Pair as ByPair}
use Rattle.host_network.specs.declared.plan.Plan.{Plan}
use Rattle.host_network.proofs.Counting.{Agrees, IsSourceOf, agrees, moves, pair_of, source-of, spared-name, spared-none, spared-slot, stays}
use Rattle.host_network.proofs.Indexes.{at-index, mapped-length}
use Rattle.host_network.proofs.KeyPlaces.{map-remove}
use Rattle.host_network.proofs.SlotPlaceLaws.{numbers-are}
use Rattle.host_network.proofs.Tidiness.{IsFresh, Neat, absent, fresh-of, after_event-name, names_at, neat, same-test, slot_numbers}
use Rattle.scp_types.proofs.Bools.{not_is}
use Rattle.host_network.proofs.OfSlots.{AreOfSlots, of-slots}
use Rattle.host_network.proofs.Plans.{at-place, node_named-is, instances_at-is, same-option}
use Rattle.host_network.proofs.Emitted.{all-at}
use Rattle.scp_spec.proofs.Equality.Sameness.{eqb-refl}

-- ---- a place that is the only one
-- this stands there and nowhere else
abbrev pub IsOnlyAt : ℕ → ℕ → List ℕ → Type 0
IsOnlyAt i k [] = ⊥
IsOnlyAt i zero (n ∷ ns) = (n ≡ i) × AllByRecursion (λ m. (m == i) ≡ false) ns
IsOnlyAt i (suc k) (n ∷ ns) = ((n == i) ≡ false) × IsOnlyAt i k ns

pub none-any : (ns : List ℕ) (i : ℕ) → list_any (λ w. w == i) ns ≡ false → AllByRecursion (λ m. (m == i) ≡ false) ns
none-any [] i h = tt
none-any (n ∷ ns) i h = let p = both (n == i) (list_any (λ w. w == i) ns) h in (p.0, none-any ns i p.1)
  where
    both : (b c : Bool) → (b || c) ≡ false → (b ≡ false) × (c ≡ false)
    both true c h = absurd (false≢true (sym h))
    both false c h = (refl, h)

none-index : (ns : List ℕ) (i : ℕ) → AllByRecursion (λ m. (m == i) ≡ false) ns → index_in ns i ≡ None
none-index [] i a = refl
none-index (n ∷ ns) i a = ap (λ b. if b then Some 0 else option_map suc (index_in ns i)) a.0 ∙ ap (option_map suc) (none-index ns i a.1)

pub only-at : (ns : List ℕ) (i k : ℕ) → index_in ns i ≡ Some k → all_differ ns ≡ true → IsOnlyAt i k ns
only-at [] i k h d = absurd (cc)
only-at (n ∷ ns) i k h d = go (n == i) (index_in ns i) (λ j e g. only-at ns i j e g) refl refl h
  where
    parts : (not (list_any (λ w. w == n) ns) ≡ true) × (all_differ ns ≡ true)
    parts = and_parts (not (list_any (λ w. w == n) ns)) (all_differ ns) d

    go : (b : Bool) (o : Option ℕ) → ((j : ℕ) → index_in ns i ≡ Some j → all_differ ns ≡ true → IsOnlyAt i j ns) → (n == i) ≡ b → index_in ns i ≡ o → (if b then Some 0 else option_map suc o) ≡ Some k → IsOnlyAt i k (n ∷ ns)
    go true o ih q e p =
        let z : 0 ≡ k = cc in
        let same : n ≡ i = eqb-true n i q in
        subst (λ j. IsOnlyAt i j (n ∷ ns)) z (same, none-any ns i (ap (λ v. list_any (λ w. w == v) ns) (sym same) ∙ not_is (list_any (λ w. w == n) ns) parts.0))
    go false None ih q e p = absurd (cc)
    go false (Some j) ih q e p = let z : suc j ≡ k = cc in subst (λ j. IsOnlyAt i j (n ∷ ns)) z (q, ih j e parts.1)

others : {X : Type 0} (key : X → ℕ) (P Q : X → Type 0) (i : ℕ) (xs : List X) → AllByRecursion (λ m. (m == i) ≡ false) (map key xs) → ((x : X) → (key x == i) ≡ false → P x → Q x) → All P xs → All Q xs
others key P Q i [] o miss a = All-nil Q
others key P Q i (x ∷ xs) o miss a = All-cons Q x xs (miss x o.0 (All-head P x xs a)) (others key P Q i xs o.1 miss (All-tail P x xs a))

-- a property of all but one passes over a change of that one
all-changed : {X : Type 0} (key : X → ℕ) (R : X → X → Type 0) (P Q : X → Type 0) (i k : ℕ) (old new : List X) → IsOnlyAt i k (map key old) → IsChangedAt R k old new
    → ((x : X) → (key x == i) ≡ false → P x → Q x) → ((x y : X) → key x ≡ i → R x y → P x → Q y) → All P old → All Q new
all-changed key R P Q i k [] new o r miss hit a = absurd r
all-changed key R P Q i k (x ∷ xs) [] o r miss hit a = absurd r
all-changed {X} key R P Q i zero (x ∷ xs) (y ∷ ys) o r miss hit a =
    All-cons Q y ys (hit x y o.0 r.0 (All-head P x xs a)) (subst (λ (zs : List X). All Q zs) r.1 (others key P Q i xs o.1 miss (All-tail P x xs a)))
all-changed key R P Q i (suc k) (x ∷ xs) (y ∷ ys) o r miss hit a =
    All-cons Q y ys (subst Q r.0 (miss x o.0 (All-head P x xs a))) (all-changed key R P Q i k xs ys o.1 r.1 miss hit (All-tail P x xs a))

-- ---- slots without numbers of archives and counts
abbrev node_of : CountedInstance → Instance
node_of x = x.instance

abbrev name_at : FiledInstance → ℕ
name_at l = l.held.node.name

abbrev number_at : FiledSlot → ℕ
number_at s = s.number

names-are : (ps : List FiledInstance) → map (λ (x : CountedInstance). x.instance.node.name) (map counted_instance ps) ≡ map name_at ps
names-are [] = refl
names-are (p ∷ ps) = ap (λ (ns : List ℕ). name_at p ∷ ns) (names-are ps)

counted-numbers : (ss : List FiledSlot) → map (λ (s : CountedSlot). s.number) (map counted_slot ss) ≡ map number_at ss
counted-numbers [] = refl
counted-numbers (s ∷ ss) = ap (λ (ns : List ℕ). s.number ∷ ns) (counted-numbers ss)

acted-instances : (c : Charge) (e : NodeEvent) (h : ℕ) (old new : List FiledInstance) → IsChangedAt (IsActed c e) h old new → map node_of (map counted_instance new) ≡ changed_at h (after_event e) (map node_of (map counted_instance old))
acted-instances c e h [] new r = absurd r
acted-instances c e h (x ∷ xs) [] r = absurd r
acted-instances c e zero (x ∷ xs) (y ∷ ys) r = ap₂ (λ (p : Instance) (ps : List Instance). p ∷ ps) r.0.instance (sym (ap (λ (zs : List FiledInstance). map node_of (map counted_instance zs)) r.1))
acted-instances c e (suc h) (x ∷ xs) (y ∷ ys) r = ap₂ (λ (p : Instance) (ps : List Instance). p ∷ ps) (sym (ap instance_of_filed r.0)) (acted-instances c e h xs ys r.1)

acted-slots : (c : Charge) (e : NodeEvent) (h k : ℕ) (old new : List FiledSlot) → IsChangedAt (IsSlotActed c h e) k old new → slots_of new ≡ slots_after_event (slots_of old) k h e
acted-slots c e h k [] new r = absurd r
acted-slots c e h k (x ∷ xs) [] r = absurd r
acted-slots c e h zero (x ∷ xs) (y ∷ ys) r =
    ap₂ {C = List Slot} (λ (s : Slot) (ss : List Slot). s ∷ ss) (λ j. record { number = r.0.number j; instances = acted-instances c e h x.instances y.instances r.0.instances j }) (sym (ap slots_of r.1))
acted-slots c e h (suc k) (x ∷ xs) (y ∷ ys) r = ap₂ {C = List Slot} (λ (s : Slot) (ss : List Slot). s ∷ ss) (sym (ap (λ (s : FiledSlot). slot_of (counted_slot s)) r.0)) (acted-slots c e h k xs ys r.1)

pub done-slots : (c : Charge) (d : Deed) (old new : List FiledSlot) → IsDone c d old new → slots_of new ≡ slots_after (slots_of old) d
done-slots c (Open s) old new h = ap slots_of h ∙ ap (map slot_of) (map-append counted_slot old (s ∷ [])) ∙ map-append slot_of (map counted_slot old) (counted_slot s ∷ [])
done-slots c (Close k) old new h = ap slots_of h ∙ ap (map slot_of) (map-remove counted_slot old k) ∙ map-remove slot_of (map counted_slot old) k
done-slots c (Act at e) old new d = acted-slots c (event_of e) at.node_at at.slot_at old new d
done-slots c (Hand at e) old new d = acted-slots c (NodeEvent.Take e) at.node_at at.slot_at old new d

-- ---- what is counted on the network
pub budgets-are : (m : Machine) (d : Drawn) (s : Source) → IsDrawn m d s → (n : ℕ) → on_budgets s n ≡ on_budgets_of d n
budgets-are m ByBudgets s q n = ap (λ z. on_budgets z n) q
budgets-are m ByOpens s q n = ap (λ z. on_budgets z n) q.2
budgets-are m (ByOwn at) s q n = ap (λ z. on_budgets z n) q.6
budgets-are m (ByPair at u) s q n = ap (λ z. on_budgets z n) q.6

pub opens-are : (m : Machine) (d : Drawn) (s : Source) → IsDrawn m d s → on_opens s ≡ on_opens_of d
opens-are m ByBudgets s q = ap on_opens q
opens-are m ByOpens s q = ap on_opens q.2
opens-are m (ByOwn at) s q = ap on_opens q.6
opens-are m (ByPair at u) s q = ap on_opens q.6

-- ---- what is counted at the nodes
-- the hosted nodes stand in their order at each slot
names-all : (ns : List ℕ) (ss : List FiledSlot) → AllByRecursion (λ (s : CountedSlot). map (λ (x : CountedInstance). x.instance.node.name) s.instances ≡ ns) (map counted_slot ss) → All (λ (s : FiledSlot). map name_at s.instances ≡ ns) ss
names-all ns [] a = All-nil (λ (s : FiledSlot). map name_at s.instances ≡ ns)
names-all ns (s ∷ ss) a = All-cons (λ (s : FiledSlot). map name_at s.instances ≡ ns) s ss (sym (names-are s.instances) ∙ a.0) (names-all ns ss a.1)

unmapped : {X Y : Type 0} (P : X → Type 0) (f : Y → X) (ys : List Y) → All P (map f ys) → All (λ y. P (f y)) ys
unmapped P f [] a = All-nil (λ y. P (f y))
unmapped P f (y ∷ ys) a = All-cons (λ y. P (f y)) y ys (All-head P (f y) (map f ys) a) (unmapped P f ys (All-tail P (f y) (map f ys) a))

both-all : {X : Type 0} (P Q : X → Type 0) (xs : List X) → All P xs → All Q xs → All (λ x. P x × Q x) xs
both-all P Q [] a b = All-nil (λ x. P x × Q x)
both-all P Q (x ∷ xs) a b = All-cons (λ x. P x × Q x) x xs (All-head P x xs a, All-head Q x xs b) (both-all P Q xs (All-tail P x xs a) (All-tail Q x xs b))

abbrev AreCounted : List Draw → FiledSlot → Type 0
AreCounted draws s = All (λ (l : FiledInstance). IsTallied s.number draws (counted_instance l)) s.instances

counted-from : (draws : List Draw) (ss : List FiledSlot) → AreTallied draws (map counted_slot ss) → All (AreCounted draws) ss
counted-from draws ss a =
    All-weaker (λ (s : FiledSlot). All (IsTallied s.number draws) (map counted_instance s.instances)) (AreCounted draws) (λ s b. unmapped (IsTallied s.number draws) counted_instance s.instances b) ss
    (unmapped (λ (s : CountedSlot). All (IsTallied s.number draws) s.instances) counted_slot ss a)

counted-to : (draws : List Draw) (ss : List FiledSlot) → All (AreCounted draws) ss → AreTallied draws (map counted_slot ss)
counted-to draws ss a =
    All-map (λ (s : CountedSlot). All (IsTallied s.number draws) s.instances) counted_slot ss
    (All-weaker (AreCounted draws) (λ (s : FiledSlot). All (IsTallied s.number draws) (map counted_instance s.instances)) (λ s b. All-map (IsTallied s.number draws) counted_instance s.instances b) ss a)

-- an event of a node
module _ (net after : Net) (e : Step) (c : IsCountedAfter net e after) (i u : ℕ) (o : (n : ℕ) → is_opening n e ≡ false) (q : IsSourceOf i u (source net.roster e)) where
  spared-here : (s : FiledSlot) → (s.number == i) ≡ false → AreCounted net.draws s → AreCounted after.draws s
  spared-here s d a =
      All-weaker (λ (l : FiledInstance). IsTallied s.number net.draws (counted_instance l)) (λ (l : FiledInstance). IsTallied s.number after.draws (counted_instance l))
      (λ l t. stays net after e s.number (counted_instance l) c (o s.number) (spared-slot i u s.number l.held.node.name (source net.roster e) q d) t) s.instances a

  module _ (g : Charge) (ev : NodeEvent) (size : g.size ≡ size_of e) (agree : Agrees i u g.drawn (source net.roster e)) where
    moved-here : (h : ℕ) (x y : FiledSlot) → x.number ≡ i → IsSlotActed g h ev x y → IsOnlyAt u h (map name_at x.instances) → AreCounted net.draws x → AreCounted after.draws y
    moved-here h x y same r only a =
        subst (λ n. All (λ (l : FiledInstance). IsTallied n after.draws (counted_instance l)) y.instances) (sym r.number)
        (all-changed name_at (IsActed g ev) (λ (l : FiledInstance). IsTallied x.number net.draws (counted_instance l)) (λ (l : FiledInstance). IsTallied x.number after.draws (counted_instance l)) u h x.instances y.instances only r.instances
        (λ l d t. stays net after e x.number (counted_instance l) c (o x.number) (spared-name i u x.number l.held.node.name (source net.roster e) q d) t)
        (λ l k w acted t. moves net after e x.number g l k c (o x.number)
        (subst (λ m. Agrees m l.held.node.name g.drawn (source net.roster e)) (sym same) (subst (λ m. Agrees i m g.drawn (source net.roster e)) (sym w) agree))
        size (ap (λ (p : Instance). p.node.name) acted.instance ∙ after_event-name ev (instance_of_filed l)) acted.charged t)
        a)

    counted-act : (ns : List ℕ) (h k : ℕ) (old new : List FiledSlot) → IsOnlyAt i k (map number_at old) → IsOnlyAt u h ns → All (λ (s : FiledSlot). map name_at s.instances ≡ ns) old → IsChangedAt (IsSlotActed g h ev) k old new
        → All (AreCounted net.draws) old → All (AreCounted after.draws) new
    counted-act ns h k old new at only names r a =
        all-changed number_at (IsSlotActed g h ev) (λ (s : FiledSlot). AreCounted net.draws s × (map name_at s.instances ≡ ns)) (AreCounted after.draws) i k old new at r
        (λ s d b. spared-here s d b.0)
        (λ x y w acted b. moved-here h x y w acted (subst (IsOnlyAt u h) (sym b.1) only) b.0)
        (both-all (AreCounted net.draws) (λ (s : FiledSlot). map name_at s.instances ≡ ns) old a names)

-- an opening draws on no share, and nothing is drawn on those of its slot
openings-draw : (o : Option Roster) (i m : ℕ) (t : Share) → is_of_share m t (source o (Opens i)) ≡ false
openings-draw None i m t = refl
openings-draw (Some r) i m t = refl

closings-draw : (o : Option Roster) (i m : ℕ) (t : Share) → is_of_share m t (source o (Closes i)) ≡ false
closings-draw None i m t = refl
closings-draw (Some r) i m t = refl

fresh-tallied : (net after : Net) (i : ℕ) (l : FiledInstance) → IsCountedAfter net (Opens i) after → HasDrawnNothing l → IsTallied i after.draws (counted_instance l)
fresh-tallied net after i l c u = record {
  own = u.own ∙ sym (c.renewed i (Own l.held.node.name) (eqb-refl i)).0;
  events = λ v. ap (λ ts. events_from ts v) u.heard ∙ sym (c.renewed i (Pair l.held.node.name v) (eqb-refl i)).0;
  bytes = λ v. ap (λ ts. bytes_from ts v) u.heard ∙ sym (c.renewed i (Pair l.held.node.name v) (eqb-refl i)).1;
}

counted-open : (net after : Net) (s : FiledSlot) (old : List FiledSlot) → IsCountedAfter net (Opens s.number) after → AllByRecursion (λ m. (m == s.number) ≡ false) (map number_at old) → All HasDrawnNothing s.instances
    → All (AreCounted net.draws) old → All (AreCounted after.draws) (old ++ s ∷ [])
counted-open net after s old c out fresh a =
    All-append (AreCounted after.draws) old (s ∷ [])
    (others number_at (AreCounted net.draws) (AreCounted after.draws) s.number old out
    (λ x d b. All-weaker (λ (l : FiledInstance). IsTallied x.number net.draws (counted_instance l)) (λ (l : FiledInstance). IsTallied x.number after.draws (counted_instance l))
    (λ l t. stays net after (Opens s.number) x.number (counted_instance l) c (same-test s.number x.number ∙ d) (spared-none x.number l.held.node.name (source net.roster (Opens s.number)) (openings-draw net.roster s.number)) t) x.instances b)
    a)
    (All-cons (AreCounted after.draws) s [] (All-weaker HasDrawnNothing (λ (l : FiledInstance). IsTallied s.number after.draws (counted_instance l)) (λ l u. fresh-tallied net after s.number l c u) s.instances fresh) (All-nil (AreCounted after.draws)))

counted-close : (net after : Net) (i k : ℕ) (old : List FiledSlot) → IsCountedAfter net (Closes i) after → All (AreCounted net.draws) old → All (AreCounted after.draws) (remove old k)
counted-close net after i k old c a =
    let b = All-weaker (AreCounted net.draws) (AreCounted after.draws)
    (λ x b. All-weaker (λ (l : FiledInstance). IsTallied x.number net.draws (counted_instance l)) (λ (l : FiledInstance). IsTallied x.number after.draws (counted_instance l))
    (λ l t. stays net after (Closes i) x.number (counted_instance l) c refl (spared-none x.number l.held.node.name (source net.roster (Closes i)) (closings-draw net.roster i)) t) x.instances b)
    old a in
    All-append (AreCounted after.draws) (take k old) (drop (suc k) old) (All-take (AreCounted after.draws) k old b) (All-drop (AreCounted after.draws) (suc k) old b)

-- an event of a node opens no slot
opens-none : (e : Step) (at : ℕ × ℕ) → slot_and_node_of e ≡ Some at → (n : ℕ) → is_opening n e ≡ false
opens-none (Opens i) at h n = absurd (cc)
opens-none (Closes i) at h n = refl
opens-none (Proposes i u x) at h n = refl
opens-none (Delivers u size d) at h n = refl
opens-none (Hears i u from kind k) at h n = refl
opens-none (NominationTimerFires i u r) at h n = refl
opens-none (BallotTimerFires i u r) at h n = refl
opens-none (Reslices i u q) at h n = refl

-- the node that an event names
abbrev pub IsAtNode : Machine → Step → ℕ → ℕ → Type 0
IsAtNode m e k h = (i : ℕ) × (u : ℕ) × (slot_and_node_of e ≡ Some (pair_of i u)) × (index_in (map (λ (s : Slot). s.number) (map slot_of m.slots)) i ≡ Some k) × (index_in (names_of m.config.nodes) u ≡ Some h)

pub node-named : (m : Machine) (e : Step) (k h : ℕ) → IsNodeOf m (slot_and_node_of e) k h → IsAtNode m e k h
node-named m e k h n = go (slot_and_node_of e) refl n
  where
    go : (o : Option (ℕ × ℕ)) → slot_and_node_of e ≡ o → IsNodeOf m o k h → IsAtNode m e k h
    go None q n = absurd n
    go (Some at) q n = (at.0, at.1, q, n.0, n.1)

-- ---- networks without counts
node-names : (xs : List CountedInstance) → names_at (map node_of xs) ≡ map (λ (x : CountedInstance). x.instance.node.name) xs
node-names [] = refl
node-names (x ∷ xs) = ap (λ (ns : List ℕ). x.instance.node.name ∷ ns) (node-names xs)

to-names : (ns : List ℕ) (ss : List CountedSlot) → AllByRecursion (λ (s : CountedSlot). map (λ (x : CountedInstance). x.instance.node.name) s.instances ≡ ns) ss → AllByRecursion (λ (s : Slot). names_at s.instances ≡ ns) (map slot_of ss)
to-names ns [] a = tt
to-names ns (s ∷ ss) a = (node-names s.instances ∙ a.0, to-names ns ss a.1)

from-names : (ns : List ℕ) (ss : List CountedSlot) → AllByRecursion (λ (s : Slot). names_at s.instances ≡ ns) (map slot_of ss) → AllByRecursion (λ (s : CountedSlot). map (λ (x : CountedInstance). x.instance.node.name) s.instances ≡ ns) ss
from-names ns [] a = tt
from-names ns (s ∷ ss) a = (sym (node-names s.instances) ∙ a.0, from-names ns ss a.1)

to-own-each : (i : ℕ) (xs : List CountedInstance) → AllByRecursion (λ (x : CountedInstance). IsOfSlot i x.instance) xs → AllByRecursion (IsOfSlot i) (map node_of xs)
to-own-each i [] a = tt
to-own-each i (x ∷ xs) a = (a.0, to-own-each i xs a.1)

to-own : (ss : List CountedSlot) → AllByRecursion (λ (s : CountedSlot). AllByRecursion (λ (x : CountedInstance). IsOfSlot s.number x.instance) s.instances) ss → AreOfSlots (map slot_of ss)
to-own [] a = tt
to-own (s ∷ ss) a = (to-own-each s.number s.instances a.0, to-own ss a.1)

from-own-each : (i : ℕ) (xs : List CountedInstance) → AllByRecursion (IsOfSlot i) (map node_of xs) → AllByRecursion (λ (x : CountedInstance). IsOfSlot i x.instance) xs
from-own-each i [] a = tt
from-own-each i (x ∷ xs) a = (a.0, from-own-each i xs a.1)

from-own : (ss : List CountedSlot) → AreOfSlots (map slot_of ss) → AllByRecursion (λ (s : CountedSlot). AllByRecursion (λ (x : CountedInstance). IsOfSlot s.number x.instance) s.instances) ss
from-own [] a = tt
from-own (s ∷ ss) a = (from-own-each s.number s.instances a.0, from-own ss a.1)

slots-numbers : (ss : List CountedSlot) → slot_numbers (map slot_of ss) ≡ map (λ (s : CountedSlot). s.number) ss
slots-numbers [] = refl
slots-numbers (s ∷ ss) = ap (λ (ns : List ℕ). s.number ∷ ns) (slots-numbers ss)

pub neat-of : (m : Machine) → IsTidy m → Neat m.config.nodes (map slot_of m.slots)
neat-of m t = record { names = to-names (names_of m.config.nodes) m.slots t.names; apart = ap all_differ (slots-numbers m.slots) ∙ t.apart }

-- ---- looking up
abbrev number_of : Slot → ℕ
number_of s = s.number

abbrev instances_of : Slot → List Instance
instances_of s = s.instances

abbrev name_of : Instance → ℕ
name_of p = p.node.name

known-instance : (ns : List ℕ) (ps : List Instance) (u h : ℕ) → names_at ps ≡ ns → index_in ns u ≡ Some h → node_named ps u ≡ slice_get ps h
known-instance ns ps u h e q = node_named-is ps u ∙ at-index name_of (λ p. p) ps u h (ap (λ ms. index_in ms u) e ∙ q) ∙ same-option (slice_get ps h)

node_where_open-at : (ns : List ℕ) (slots : List Slot) (i u k h : ℕ) → AllByRecursion (λ (s : Slot). names_at s.instances ≡ ns) slots → index_in (slot_numbers slots) i ≡ Some k → index_in ns u ≡ Some h → node_where_open (instances_at slots i) u ≡ instance_at (slice_get slots k) h
node_where_open-at ns slots i u k h names q r = ap (λ o. node_where_open o u) (instances_at-is slots i ∙ at-index number_of instances_of slots i k q) ∙ go (slice_get slots k) refl
  where
    go : (o : Option Slot) → slice_get slots k ≡ o → node_where_open (option_map instances_of o) u ≡ instance_at o h
    go None e = refl
    go (Some s) e = known-instance ns s.instances u h (at-place (λ (s : Slot). names_at s.instances ≡ ns) slots k s names e) r

-- ---- the step
abbrev pub carried : FiledMachine → Plan → List FiledSlot → Machine
carried m p new = record { config = m.config; slots = map counted_slot new; events = m.events + on_budgets_of p.charge.drawn 1; bytes = m.bytes + on_budgets_of p.charge.drawn p.charge.size; opens = m.opens + on_opens_of p.charge.drawn }

abbrev reply_of : Net → Step → Net × Reply
reply_of net e = (next net e, Done (effect net e).1)

stepped : (net : Net) (e : Step) → first_that (tests net e) ≡ None → net_step net e ≡ reply_of net e
unfolding net_step
stepped net e h = ap (state_and_reply net e) h

open-marks : (net : Net) (i : ℕ) → [] ≡ marks_in net (Opens i)
unfolding effect numbers_by_kind
open-marks net i = refl

close-marks : (net : Net) (i : ℕ) → [] ≡ marks_in net (Closes i)
unfolding effect numbers_by_kind
close-marks net i = refl

module _ (m : FiledMachine) (e : Step) (p : Plan) (t : IsStanding m) (plan : IsPlan m e p) (draws : List Draw) (tallied : AreTallied draws (map counted_slot m.slots)) where
  abbrev net : Net
  net = net_of (machine_of m) draws

  stands-for : StandsFor (machine_of m) net
  stands-for = record { is = refl; tallied = tallied }

  allowed : first_that (tests net e) ≡ None
  allowed = plan.allowed net stands-for

  counted-after : IsCountedAfter net e (net_step net e).0
  counted-after = steps_are_counted net e allowed

  slots-index : (i k : ℕ) → index_in (map (λ (s : Slot). s.number) (slots_of m.slots)) i ≡ Some k → IsOnlyAt i k (map number_at m.slots)
  slots-index i k q = only-at (map number_at m.slots) i k (ap (λ ns. index_in ns i) (sym (numbers-are m.slots)) ∙ q) (ap all_differ (sym (counted-numbers m.slots)) ∙ t.tidy.apart)

  out-of : (i : ℕ) → e ≡ Opens i → AllByRecursion (λ n. (n == i) ≡ false) (map number_at m.slots)
  out-of i q =
      let f : is_open net i ≡ false = subst (IsFresh net) q (fresh-of net e allowed) in
      none-any (map number_at m.slots) i (ap (λ ns. list_any (λ w. w == i) ns) (sym (numbers-are m.slots)) ∙ absent (slots_of m.slots) i f)

  module _ (new : List FiledSlot) where
    by-deed : (d : Deed) → IsDone p.charge d m.slots new → IsEventOf (machine_of m) e d → IsThere m.archive (slots_of m.slots) d → All (AreCounted (net_step net e).0.draws) new
    by-deed (Open s) dn nm th =
        subst (λ (ss : List FiledSlot). All (AreCounted (net_step net e).0.draws) ss) (sym dn)
        (counted-open net (net_step net e).0 s m.slots (subst (λ z. IsCountedAfter net z (net_step net e).0) nm counted-after) (out-of s.number nm) th.1 (counted-from draws m.slots tallied))
    by-deed (Close k) dn nm th =
        subst (λ (ss : List FiledSlot). All (AreCounted (net_step net e).0.draws) ss) (sym dn)
        (counted-close net (net_step net e).0 nm.0 k m.slots (subst (λ z. IsCountedAfter net z (net_step net e).0) nm.1 counted-after) (counted-from draws m.slots tallied))
    by-deed (Act at x) dn nm th =
        let a = node-named (machine_of m) e at.slot_at at.node_at nm in
        let q = source-of m.config.roster e a.0 a.1 a.2 in
        counted-act net (net_step net e).0 e counted-after a.0 a.1 (opens-none e (pair_of a.0 a.1) a.2) q p.charge (event_of x) plan.size (agrees (machine_of m) p.charge.drawn (source m.config.roster e) a.0 a.1 plan.drawn q)
        (names_of m.config.nodes) at.node_at at.slot_at m.slots new (slots-index a.0 at.slot_at a.3) (only-at (names_of m.config.nodes) a.1 at.node_at a.4 t.tidy.single) (names-all (names_of m.config.nodes) m.slots t.tidy.names) dn (counted-from draws m.slots tallied)
    by-deed (Hand at x) dn nm th =
        let a = node-named (machine_of m) e at.slot_at at.node_at nm in
        let q = source-of m.config.roster e a.0 a.1 a.2 in
        counted-act net (net_step net e).0 e counted-after a.0 a.1 (opens-none e (pair_of a.0 a.1) a.2) q p.charge (NodeEvent.Take x) plan.size (agrees (machine_of m) p.charge.drawn (source m.config.roster e) a.0 a.1 plan.drawn q)
        (names_of m.config.nodes) at.node_at at.slot_at m.slots new (slots-index a.0 at.slot_at a.3) (only-at (names_of m.config.nodes) a.1 at.node_at a.4 t.tidy.single) (names-all (names_of m.config.nodes) m.slots t.tidy.names) dn (counted-from draws m.slots tallied)

    module _ (done : IsDone p.charge p.deed m.slots new) where
      slots-are : (effect net e).0.slots ≡ map slot_of (map counted_slot new)
      slots-are = sym (plan.slots net stands-for) ∙ sym (done-slots p.charge p.deed m.slots new done)

      events-are : (effect net e).0.events + on_budgets (source net.roster e) 1 ≡ m.events + on_budgets_of p.charge.drawn 1
      events-are = ap₂ (λ a b. a + b) (effect-keeps net e).events (budgets-are (machine_of m) p.charge.drawn (source m.config.roster e) plan.drawn 1)

      bytes-are : (effect net e).0.bytes + on_budgets (source net.roster e) (size_of e) ≡ m.bytes + on_budgets_of p.charge.drawn p.charge.size
      bytes-are = ap₂ (λ a b. a + b) (effect-keeps net e).bytes (budgets-are (machine_of m) p.charge.drawn (source m.config.roster e) plan.drawn (size_of e) ∙ ap (on_budgets_of p.charge.drawn) (sym plan.size))

      opens-same : (effect net e).0.opens + on_opens (source net.roster e) ≡ m.opens + on_opens_of p.charge.drawn
      opens-same = ap₂ (λ a b. a + b) (effect-keeps net e).opens (opens-are (machine_of m) p.charge.drawn (source m.config.roster e) plan.drawn)

      next-is : next net e ≡ net_of (carried m p new) (next net e).draws
      next-is = λ j. record {
        number = (effect-keeps net e).number j;
        nodes = (effect-keeps net e).nodes j;
        budgets = (effect-keeps net e).budgets j;
        roster = (effect-keeps net e).roster j;
        slots = slots-are j;
        events = events-are j;
        bytes = bytes-are j;
        opens = opens-same j;
        draws = (next net e).draws;
      }

      pub stands-after : StandsFor (carried m p new) (net_step net e).0
      stands-after = record {
        is = subst (λ (n : Net). n ≡ net_of (carried m p new) n.draws) (sym (ap (λ (z : Net × Reply). z.0) (stepped net e allowed))) next-is;
        tallied = counted-to (net_step net e).0.draws new (by-deed p.deed done plan.named plan.there);
      }

      pub given-after : (net_step net e).1 ≡ Done (outs_of_deed (slots_of m.slots) p.deed)
      given-after = ap (λ (z : Net × Reply). z.1) (stepped net e allowed) ∙ ap Done (sym (plan.outs net stands-for))

      neat-after : Neat m.config.nodes (map slot_of (map counted_slot new))
      neat-after = subst (λ ss. Neat m.config.nodes ss) slots-are (neat net e (fresh-of net e allowed) (neat-of (machine_of m) t.tidy))

      own-after : AreOfSlots (map slot_of (map counted_slot new))
      own-after = subst AreOfSlots slots-are (of-slots net e (to-own (map counted_slot m.slots) t.tidy.own))

  marks-by : (d : Deed) → IsEventOf (machine_of m) e d → outs_of_deed (slots_of m.slots) d ≡ (effect net e).1 → marks_after (slots_of m.slots) d ≡ marks_in net e
  marks-by (Open s) nm os = open-marks net s.number ∙ ap (marks_in net) (sym nm)
  marks-by (Close k) nm os = close-marks net nm.0 ∙ ap (marks_in net) (sym nm.1)
  marks-by (Act at x) nm os =
      let a = node-named (machine_of m) e at.slot_at at.node_at nm in
      let n = neat-of (machine_of m) t.tidy in
      let emitted = ap (emitted_before net) a.2 ∙ ap emitted_at (node_where_open-at (names_of m.config.nodes) (slots_of m.slots) a.0 a.1 at.slot_at at.node_at n.names a.3 a.4) in
      ap₂ (λ (ts : List Sent) (ys : List Out). numbers_by_kind ts (emissions ys)) (sym emitted) os
  marks-by (Hand at x) nm os =
      let a = node-named (machine_of m) e at.slot_at at.node_at nm in
      let n = neat-of (machine_of m) t.tidy in
      let emitted = ap (emitted_before net) a.2 ∙ ap emitted_at (node_where_open-at (names_of m.config.nodes) (slots_of m.slots) a.0 a.1 at.slot_at at.node_at n.names a.3 a.4) in
      ap₂ (λ (ts : List Sent) (ys : List Out). numbers_by_kind ts (emissions ys)) (sym emitted) os

  pub marks-after : marks_after (slots_of m.slots) p.deed ≡ marks_in net e
  marks-after = marks-by p.deed plan.named (plan.outs net stands-for)

-- ---- for each network for which it stands
pub steps : (m : FiledMachine) (e : Step) (p : Plan) (new : List FiledSlot) (os : List Out) → IsStanding m → IsPlan m e p → IsDone p.charge p.deed m.slots new → os ≡ outs_of_deed (slots_of m.slots) p.deed → IsStep (machine_of m) e os (carried m p new)
steps m e p new os t plan done is = λ net s.
    subst (λ (n : Net). StandsFor (carried m p new) (net_step n e).0 × ((net_step n e).1 ≡ Done os)) (sym s.is)
    (stands-after m e p t plan net.draws s.tallied new done, given-after m e p t plan net.draws s.tallied new done ∙ ap Done (sym is))

pub marks : (m : FiledMachine) (e : Step) (p : Plan) (ms : List ℕ) → IsStanding m → IsPlan m e p → ms ≡ marks_after (slots_of m.slots) p.deed → (net : Net) → StandsFor (machine_of m) net → ms ≡ marks_in net e
marks m e p ms t plan is net s = is ∙ subst (λ (n : Net). marks_after (slots_of m.slots) p.deed ≡ marks_in n e) (sym s.is) (marks-after m e p t plan net.draws s.tallied)

-- ---- room for what is counted
abbrev pub HaveFewShares : FiledMachine → Type 0
HaveFewShares m = (r : Roster) → m.config.roster ≡ Some r → AreShares r.shares.own r.shares.pair r.shares.bytes r.shares.opens

index-gives : (ns : List ℕ) (u k : ℕ) → index_in ns u ≡ Some k → slice_get ns k ≡ Some u
index-gives [] u k h = absurd (cc)
index-gives (n ∷ ns) u k h = go (n == u) (index_in ns u) (λ j e. index-gives ns u j e) refl refl h
  where
    go : (b : Bool) (o : Option ℕ) → ((j : ℕ) → index_in ns u ≡ Some j → slice_get ns j ≡ Some u) → (n == u) ≡ b → index_in ns u ≡ o → (if b then Some 0 else option_map suc o) ≡ Some k → slice_get (n ∷ ns) k ≡ Some u
    go true o ih q e p = let z : 0 ≡ k = cc in subst (λ j. slice_get (n ∷ ns) j ≡ Some u) z (ap Some (eqb-true n u q))
    go false None ih q e p = absurd (cc)
    go false (Some j) ih q e p = let z : suc j ≡ k = cc in subst (λ j. slice_get (n ∷ ns) j ≡ Some u) z (ih j e)

-- what has a key at a place
record Keyed {X : Type 0} (key : X → ℕ) (xs : List X) (k u : ℕ) : Type 0 where
  it : X
  is : slice_get xs k ≡ Some it
  named : key it ≡ u

keyed : {X : Type 0} (key : X → ℕ) (xs : List X) (k u : ℕ) → slice_get (map key xs) k ≡ Some u → Keyed key xs k u
keyed key [] k u h = absurd (cc)
keyed key (x ∷ xs) zero u h = let q : key x ≡ u = cc in record { it = x; is = refl; named = q }
keyed key (x ∷ xs) (suc k) u h = let r = keyed key xs k u h in record { it = r.it; is = r.is; named = r.named }

-- the network stands, the plan is one for it, and its budgets and shares keep their limits
pub record IsCarriable (m : FiledMachine) (e : Step) (p : Plan) : Type 0 where
  pub standing : IsStanding m
  pub plan : IsPlan m e p
  pub events : m.config.budgets.events ≤ 2 ^ 40
  pub bytes : m.config.budgets.bytes ≤ 2 ^ 40
  pub shares : HaveFewShares m

-- said of what the network is seen as, it holds of what it is
pub carriable : {m s : FiledMachine} (e : Step) (p : Plan) → m ≡ s → IsStanding m → IsPlan s e p → s.config.budgets.events ≤ 2 ^ 40 → s.config.budgets.bytes ≤ 2 ^ 40 → HaveFewShares s → IsCarriable m e p
carriable e p seen t plan events bytes few = record {
  standing = t;
  plan = subst (λ (z : FiledMachine). IsPlan z e p) (sym seen) plan;
  events = subst (λ (z : FiledMachine). z.config.budgets.events ≤ 2 ^ 40) (sym seen) events;
  bytes = subst (λ (z : FiledMachine). z.config.budgets.bytes ≤ 2 ^ 40) (sym seen) bytes;
  shares = subst HaveFewShares (sym seen) few;
}

module _ {m : FiledMachine} {e : Step} {p : Plan} (known : IsCarriable m e p) where
  abbrev stood : Net
  stood = net_of (machine_of m) known.standing.stood.0

  abbrev its : Source
  its = source m.config.roster e

  room : HasRoom stood e
  room = applied_where_room stood e (known.plan.allowed stood (record { is = refl; tallied = known.standing.stood.1 }))

  bytes-kept : (d : Drawn) → IsDrawn (machine_of m) d its → m.bytes + on_budgets_of d p.charge.size ≤ m.config.budgets.bytes
  bytes-kept ByBudgets q = elim (room-bytes stood e room) [
    | inl f ↦ let l : m.bytes + size_of e ≤ m.config.budgets.bytes = subst (λ z. HasRoomForBytes stood z (size_of e)) q f in let z = known.plan.size in omega (arith, l, z)
    | inr z ↦ let l = known.standing.tidy.bytes in let s = known.plan.size in omega (arith, l, z, s)
  ]
  bytes-kept ByOpens q = let l = known.standing.tidy.bytes in omega (arith, l)
  bytes-kept (ByOwn at) q = let l = known.standing.tidy.bytes in omega (arith, l)
  bytes-kept (ByPair at u) q = let l = known.standing.tidy.bytes in omega (arith, l)

  network-room : (d : Drawn) → IsDrawn (machine_of m) d its → HasRoomOnNetwork d p.charge.size m.events m.bytes m.opens
  network-room ByBudgets q =
      let l : m.events < m.config.budgets.events = subst (HasRoomForEvents stood) q (room-events stood e room) in
      let b : m.bytes + p.charge.size ≤ m.config.budgets.bytes = bytes-kept ByBudgets q in
      let few_events = known.events in
      let few_bytes = known.bytes in
      (omega (arith, l, few_events), omega (arith, b, few_bytes))
  network-room ByOpens q =
      let l : m.opens < q.0.shares.opens = subst (HasRoomForEvents stood) q.2 (room-events stood e room) in
      let s = (known.shares q.0 q.1).few_opens in
      omega (arith, l, s)
  network-room (ByOwn at) q = tt
  network-room (ByPair at u) q = tt

  pub room-on-network : HasRoomOnNetwork p.charge.drawn p.charge.size m.events m.bytes m.opens
  room-on-network = network-room p.charge.drawn known.plan.drawn

  node-room : (d : Drawn) (i u : ℕ) (x : FiledSlot) (y : FiledInstance) → IsDrawn (machine_of m) d its → IsSourceOf i u its → x.number ≡ i → y.held.node.name ≡ u → IsTallied x.number known.standing.stood.0 (counted_instance y) → HasRoomInCounts d p.charge.size y.own y.heard
  node-room ByBudgets i u x y q s xn yn tl = tt
  node-room ByOpens i u x y q s xn yn tl = tt
  node-room (ByOwn at) i u x y q s xn yn tl =
      let f = subst (IsSourceOf i u) q.6 s in
      let l : events_drawn q.1.number (Own q.2.instance.node.name) known.standing.stood.0 < q.0.shares.own = subst (HasRoomForEvents stood) q.6 (room-events stood e room) in
      let same = ap₂ (λ a b. events_drawn a (Own b) known.standing.stood.0) (f.0 ∙ sym xn) (f.1 ∙ sym yn) in
      let o = tl.own in
      let b = (known.shares q.0 q.3).few_own in
      omega (arith, l, same, o, b)
  node-room (ByPair at w) i u x y q s xn yn tl =
      let f = subst (IsSourceOf i u) q.6 s in
      let l : events_drawn q.1.number (Pair q.2.instance.node.name w) known.standing.stood.0 < q.0.shares.pair = subst (HasRoomForEvents stood) q.6 (room-events stood e room) in
      let same = ap₂ (λ a b. events_drawn a (Pair b w) known.standing.stood.0) (f.0 ∙ sym xn) (f.1 ∙ sym yn) in
      let size-same = ap₂ (λ a b. bytes_drawn a (Pair b w) known.standing.stood.0) (f.0 ∙ sym xn) (f.1 ∙ sym yn) in
      let o = tl.events w in
      let r = tl.bytes w in
      let b = (known.shares q.0 q.3).few_pair in
      let c = (known.shares q.0 q.3).few_bytes in
      let z = known.plan.size in (
        omega (arith, l, same, o, b),
        elim (room-bytes stood e room) [
          | inl g ↦ inl (let k : bytes_drawn q.1.number (Pair q.2.instance.node.name w) known.standing.stood.0 + size_of e ≤ q.0.shares.bytes = subst (λ a. HasRoomForBytes stood a (size_of e)) q.6 g in omega (arith, k, size-same, r, c, z))
          | inr g ↦ inr (z ∙ g)
        ],
      )

  ready : (k h : ℕ) → IsNodeOf (machine_of m) (slot_and_node_of e) k h → HasReadyNode p.charge m.slots k h
  ready k h nm =
      let a = node-named (machine_of m) e k h nm in
      let x = keyed number_at m.slots k a.0 (index-gives (map number_at m.slots) a.0 k (ap (λ ns. index_in ns a.0) (sym (numbers-are m.slots)) ∙ a.3)) in
      let names = all-at (λ (s : FiledSlot). map name_at s.instances ≡ names_of m.config.nodes) m.slots k x.it (names-all (names_of m.config.nodes) m.slots known.standing.tidy.names) x.is in
      let y = keyed name_at x.it.instances h a.1 (index-gives (map name_at x.it.instances) a.1 h (ap (λ ns. index_in ns a.1) names ∙ a.4)) in
      let tl = all-at (λ (l : FiledInstance). IsTallied x.it.number known.standing.stood.0 (counted_instance l)) x.it.instances h y.it (all-at (AreCounted known.standing.stood.0) m.slots k x.it (counted-from known.standing.stood.0 m.slots known.standing.stood.1) x.is) y.is in
      record { slot = x.it; instance = y.it; slot_is = x.is; instance_is = y.is; room = node-room p.charge.drawn a.0 a.1 x.it y.it known.plan.drawn (source-of m.config.roster e a.0 a.1 a.2) x.named y.named tl }

  doable-by : (d : Deed) → IsEventOf (machine_of m) e d → IsThere m.archive (slots_of m.slots) d → IsDoable m.archive p.charge m.slots d
  doable-by (Open s) nm th = (th.0, none-index (map number_at m.slots) s.number (out-of m e p known.standing known.plan known.standing.stood.0 known.standing.stood.1 s.number nm))
  doable-by (Close k) nm th =
      let a = mapped-length slot_of (map counted_slot m.slots) in
      let b = mapped-length counted_slot m.slots in
      let l : k < length (slots_of m.slots) = th in
      (omega (arith, a, b, l), ap all_differ (sym (counted-numbers m.slots)) ∙ known.standing.tidy.apart)
  doable-by (Act at x) nm th = (ready at.slot_at at.node_at nm, th.1)
  doable-by (Hand at x) nm th = ready at.slot_at at.node_at nm

  pub doable : IsDoable m.archive p.charge m.slots p.deed
  doable = doable-by p.deed known.plan.named known.plan.there

  module _ (new : List FiledSlot) (archive : Archived) (done : IsDone p.charge p.deed m.slots new) (archived : All (λ (s : FiledSlot). All (IsInstanceFiled archive) s.instances) new) where
    tidy-after : IsTidy (carried m p new)
    tidy-after =
        let n = neat-after m e p known.standing known.plan known.standing.stood.0 known.standing.stood.1 new done in
        record {
          single = known.standing.tidy.single;
          names = from-names (names_of m.config.nodes) (map counted_slot new) n.names;
          apart = ap all_differ (sym (slots-numbers (map counted_slot new))) ∙ n.apart;
          own = from-own (map counted_slot new) (own-after m e p known.standing known.plan known.standing.stood.0 known.standing.stood.1 new done);
          bytes = bytes-kept p.charge.drawn known.plan.drawn;
        }

    pub standing-after : (events bytes opens : ℕ) → events ≡ m.events + on_budgets_of p.charge.drawn 1 → bytes ≡ m.bytes + on_budgets_of p.charge.drawn p.charge.size → opens ≡ m.opens + on_opens_of p.charge.drawn
        → IsStanding (record { config = m.config; archive = archive; slots = new; events = events; bytes = bytes; opens = opens })
    standing-after events bytes opens a b c =
        subst IsStanding (λ j. record { config = m.config; archive = archive; slots = new; events = sym a j; bytes = sym b j; opens = sym c j })
        (record { archived = archived; tidy = tidy-after; stood = ((net_step stood e).0.draws, (stands-after m e p known.standing known.plan known.standing.stood.0 known.standing.stood.1 new done).tallied) })

-- ---- what carrying out leaves
pub applied : (m : FiledMachine) (e : Step) (p : Plan) (new : List FiledSlot) (archive : Archived) (events bytes opens : ℕ) (a : Outcome) → IsStanding m → IsPlan m e p → IsDone p.charge p.deed m.slots new
    → events ≡ m.events + on_budgets_of p.charge.drawn 1 → bytes ≡ m.bytes + on_budgets_of p.charge.drawn p.charge.size → opens ≡ m.opens + on_opens_of p.charge.drawn
    → IsOutcome (outs_of_deed (slots_of m.slots) p.deed) (marks_after (slots_of m.slots) p.deed) (envelope_to_file p.deed) archive a
    → IsApplied m e (record { config = m.config; archive = archive; slots = new; events = events; bytes = bytes; opens = opens }) a
applied m e p new archive events bytes opens a t plan done x y z outcome = record {
  step = subst (λ (w : Machine). IsStep (machine_of m) e a.given.outs.items w) (λ j. record { config = m.config; slots = map counted_slot new; events = sym x j; bytes = sym y j; opens = sym z j })
      (steps m e p new a.given.outs.items t plan done outcome.outs_are);
  whole = outcome.whole;
  marks = marks m e p a.given.marks.items t plan outcome.marks_are;
  filed = outcome.filed;
  delivered = outcome.delivered_is ∙ plan.handed;
  delivered_filed = outcome.delivered_filed;
}
