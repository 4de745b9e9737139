-- What is done by places is what an event does.
use Rattle.std.proofs.Common.{◌≡◌, ℕ, zero, suc, Bool, true, false, not, ◌==◌, List, [], ◌∷◌, ◌||◌, cond, map, filter, slice_get, Option, Some, None, option_map, if◌then◌else◌, refl, sym, ◌∙◌, ap, ap₂, subst}
use Rattle.std.specs.List.{AllByRecursion, list_any, remove}
use Rattle.std.proofs.lemmas.Option.{slice_get-map, slice_get_within}
use Rattle.std.proofs.lemmas.Bool.{eqb-true, false≢true, and_parts}
use Rattle.scp_types.specs.Trees.{all_differ}
use Rattle.scp_types.specs.declared.event.NodeEvent.{NodeEvent}
use Rattle.scp_spec.specs.Networks.{HostedNode, Net, Instance, Slot, act, act_in, node_where_open, after_event, outs_at, node_named, instances_at, slices_of}
use Rattle.host_config.specs.Configs.{index_in, index_of_name, names_of}
use Rattle.host_network.specs.Changes.{changed_at}
use Rattle.host_network.specs.Deeds.{IsNodeThere, IsCountedInstance, slots_after_event, index_of_slot, instance_at}
use Rattle.host_network.specs.FiledSlots.{CountedInstance, CountedSlot, slot_of}
use Rattle.host_network.specs.Standing.{IsTidy, Machine, StandsFor}
use Rattle.host_network.specs.Keyed.{at_key}
use Rattle.host_network.proofs.Indexes.{at-index, changed-map}
use Rattle.scp_types.proofs.Bools.{not_is}

abbrev number_of : Slot → ℕ
number_of s = s.number

abbrev places_of : Slot → List Instance
places_of s = s.instances

abbrev name_of : Instance → ℕ
name_of p = p.node.name

abbrev instance_name : CountedInstance → ℕ
instance_name x = x.instance.node.name

-- ---- looking up
-- what stands at the place of a key has it
pub index-get : {X : Type 0} (key : X → ℕ) (xs : List X) (u k : ℕ) → index_in (map key xs) u ≡ Some k → (x : X) × (slice_get xs k ≡ Some x) × (key x ≡ u)
index-get key [] u k h = absurd (cc)
index-get {X} key (x ∷ xs) u k h = go (key x == u) (index_in (map key xs) u) (λ j e. index-get key xs u j e) refl refl h
  where
    go : (b : Bool) (o : Option ℕ) → ((j : ℕ) → index_in (map key xs) u ≡ Some j → (y : X) × (slice_get xs j ≡ Some y) × (key y ≡ u)) → (key x == u) ≡ b → index_in (map key xs) u ≡ o → (if b then Some 0 else option_map suc o) ≡ Some k → (y : X) × (slice_get (x ∷ xs) k ≡ Some y) × (key y ≡ u)
    go true o ih y e q = let z : 0 ≡ k = cc in (x, ap (λ n. slice_get (x ∷ xs) n) (sym z), eqb-true (key x) u y)
    go false None ih y e q = absurd (cc)
    go false (Some j) ih y e q = let z : suc j ≡ k = cc in let r = ih j e in (r.0, ap (λ n. slice_get (x ∷ xs) n) (sym z) ∙ r.1, r.2)

pub instances_at-is : (slots : List Slot) (i : ℕ) → instances_at slots i ≡ at_key number_of places_of slots i
instances_at-is [] i = refl
instances_at-is (s ∷ ss) i = ap (λ o. if s.number == i then Some s.instances else o) (instances_at-is ss i)

pub node_named-is : (ps : List Instance) (u : ℕ) → node_named ps u ≡ at_key name_of (λ p. p) ps u
node_named-is [] u = refl
node_named-is (p ∷ ps) u = ap (λ o. if p.node.name == u then Some p else o) (node_named-is ps u)

pub slices_of-is : (nodes : List HostedNode) (u : ℕ) → slices_of nodes u ≡ at_key (λ (h : HostedNode). h.name) (λ (h : HostedNode). h.slices) nodes u
slices_of-is [] u = refl
slices_of-is (h ∷ hs) u = ap (λ o. if h.name == u then Some h.slices else o) (slices_of-is hs u)

pub same-option : {X : Type 0} (o : Option X) → option_map (λ x. x) o ≡ o
same-option None = refl
same-option (Some x) = refl

-- a property of all holds of one of them
pub at-place : {X : Type 0} (P : X → Type 0) (xs : List X) (k : ℕ) (x : X) → AllByRecursion P xs → slice_get xs k ≡ Some x → P x
at-place P [] k x a h = absurd (cc)
at-place P (y ∷ ys) zero x a h = let q : y ≡ x = cc in subst P q a.0
at-place P (y ∷ ys) (suc k) x a h = at-place P ys k x a.1 h

-- ---- machines and the networks for which they stand
-- no name is hosted twice; the hosted nodes stand in their order at each open slot; no slot is open twice
pub record IsNeat (nodes : List HostedNode) (slots : List Slot) : Type 0 where
  pub single : all_differ (names_of nodes) ≡ true
  pub names : AllByRecursion (λ s. map name_of s.instances ≡ names_of nodes) slots
  pub apart : all_differ (map number_of slots) ≡ true

pub numbers-same : (slots : List CountedSlot) → map number_of (map slot_of slots) ≡ map (λ s. s.number) slots
numbers-same [] = refl
numbers-same (s ∷ ss) = ap (λ (ns : List ℕ). s.number ∷ ns) (numbers-same ss)

names-same : (is : List CountedInstance) → map name_of (map (λ x. x.instance) is) ≡ map instance_name is
names-same [] = refl
names-same (x ∷ xs) = ap (λ (ns : List ℕ). x.instance.node.name ∷ ns) (names-same xs)

all-names : (ns : List ℕ) (slots : List CountedSlot) → AllByRecursion (λ s. map instance_name s.instances ≡ ns) slots → AllByRecursion (λ s. map name_of s.instances ≡ ns) (map slot_of slots)
all-names ns [] a = tt
all-names ns (s ∷ ss) a = (names-same s.instances ∙ a.0, all-names ns ss a.1)

pub neat-machine : (m : Machine) → IsTidy m → IsNeat m.config.nodes (map slot_of m.slots)
neat-machine m t = record {
  single = t.single;
  names = all-names (names_of m.config.nodes) m.slots t.names;
  apart = ap all_differ (numbers-same m.slots) ∙ t.apart;
}

pub neat-net : (m : Machine) (net : Net) → IsTidy m → StandsFor m net → IsNeat net.nodes net.slots
neat-net m net t s = subst (λ (n : Net). IsNeat n.nodes n.slots) (sym s.is) (neat-machine m t)

-- the node at the place of a hosted name and an open slot
pub instance-there : (m : Machine) (i u k h : ℕ) → IsTidy m → index_of_slot (map slot_of m.slots) i ≡ Some k → index_of_name m.config.nodes u ≡ Some h
    → (x : CountedSlot) × (y : CountedInstance) × (slice_get m.slots k ≡ Some x) × (slice_get x.instances h ≡ Some y) × (x.number ≡ i) × (y.instance.node.name ≡ u)
instance-there m i u k h t q r =
    let a = index-get (λ (s : CountedSlot). s.number) m.slots i k (ap (λ ns. index_in ns i) (sym (numbers-same m.slots)) ∙ q) in
    let b = index-get instance_name a.0.instances u h (ap (λ ns. index_in ns u) (at-place (λ (s : CountedSlot). map instance_name s.instances ≡ names_of m.config.nodes) m.slots k a.0 t.names a.1) ∙ r) in
    (a.0, b.0, a.1, b.1, a.2, b.2)

-- a counted instance is an instance of the slot
pub counted-instance : (m : Machine) (k h : ℕ) (y : CountedInstance) → IsCountedInstance m k h y → instance_at (slice_get (map slot_of m.slots) k) h ≡ Some y.instance
counted-instance m k h y is =
    ap (λ o. instance_at o h) (slice_get-map slot_of m.slots k ∙ ap (option_map slot_of) is.1)
    ∙ slice_get-map (λ (x : CountedInstance). x.instance) is.0.instances h ∙ ap (option_map (λ (x : CountedInstance). x.instance)) is.2

pub node-there : (m : Machine) (k h : ℕ) (y : CountedInstance) → IsCountedInstance m k h y → IsNodeThere (map slot_of m.slots) k h
node-there m k h y is =
    let e = counted-instance m k h y is in
    let at : slice_get (map slot_of m.slots) k ≡ Some (slot_of is.0) = slice_get-map slot_of m.slots k ∙ ap (option_map slot_of) is.1 in
    (slot_of is.0, at, slice_get_within (map (λ (x : CountedInstance). x.instance) is.0.instances) h y.instance (slice_get-map (λ (x : CountedInstance). x.instance) is.0.instances h ∙ ap (option_map (λ (x : CountedInstance). x.instance)) is.2))

-- ---- the node of a name at a slot
pub known-instance : (nodes : List HostedNode) (ps : List Instance) (u h : ℕ) → map name_of ps ≡ names_of nodes → index_in (names_of nodes) u ≡ Some h → node_named ps u ≡ slice_get ps h
known-instance nodes ps u h e q = node_named-is ps u ∙ at-index name_of (λ p. p) ps u h (ap (λ ns. index_in ns u) e ∙ q) ∙ same-option (slice_get ps h)

pub node_where_open-node : (nodes : List HostedNode) (slots : List Slot) (i u k h : ℕ) → IsNeat nodes slots → index_of_slot slots i ≡ Some k → index_in (names_of nodes) u ≡ Some h → node_where_open (instances_at slots i) u ≡ instance_at (slice_get slots k) h
node_where_open-node nodes slots i u k h t q r = ap (λ o. node_where_open o u) (instances_at-is slots i ∙ at-index number_of places_of slots i k q) ∙ go (slice_get slots k) refl
  where
    go : (o : Option Slot) → slice_get slots k ≡ o → node_where_open (option_map places_of o) u ≡ instance_at o h
    go None e = refl
    go (Some s) e = known-instance nodes s.instances u h (at-place (λ (s : Slot). map name_of s.instances ≡ names_of nodes) slots k s t.names e) r

-- ---- one event of one node
same-nodes : (nodes : List HostedNode) (ps : List Instance) (u h : ℕ) (e : NodeEvent) → all_differ (names_of nodes) ≡ true → map name_of ps ≡ names_of nodes → index_in (names_of nodes) u ≡ Some h → changed_at h (after_event e) ps ≡ act_in u e ps
same-nodes nodes ps u h e d q r = changed-map name_of (after_event e) ps u h (ap (λ ns. index_in ns u) q ∙ r) (ap all_differ q ∙ d)

same-slots : (nodes : List HostedNode) (slots : List Slot) (i u h : ℕ) (e : NodeEvent) → all_differ (names_of nodes) ≡ true → AllByRecursion (λ s. map name_of s.instances ≡ names_of nodes) slots → index_in (names_of nodes) u ≡ Some h
    → map {B = Slot} (λ (s : Slot). if s.number == i then record s { instances = changed_at h (after_event e) s.instances } else s) slots ≡ map {B = Slot} (λ (s : Slot). if s.number == i then record s { instances = act_in u e s.instances } else s) slots
same-slots nodes [] i u h e d a r = refl
same-slots nodes (s ∷ ss) i u h e d a r =
    ap₂ {C = List Slot} (λ (ps : List Instance) (ts : List Slot). (if s.number == i then record s { instances = ps } else s) ∷ ts) (same-nodes nodes s.instances u h e d a.0 r) (same-slots nodes ss i u h e d a.1 r)

pub acted-is : (net : Net) (i u k h : ℕ) (e : NodeEvent) → IsNeat net.nodes net.slots → index_of_slot net.slots i ≡ Some k → index_in (names_of net.nodes) u ≡ Some h → slots_after_event net.slots k h e ≡ (act net i u e).0.slots
unfolding act
acted-is net i u k h e t q r =
    changed-map number_of (λ (s : Slot). record s { instances = changed_at h (after_event e) s.instances }) net.slots i k q t.apart ∙ same-slots net.nodes net.slots i u h e t.single t.names r

pub outs-are : (net : Net) (i u k h : ℕ) (e : NodeEvent) → IsNeat net.nodes net.slots → index_of_slot net.slots i ≡ Some k → index_in (names_of net.nodes) u ≡ Some h → outs_at e (instance_at (slice_get net.slots k) h) ≡ (act net i u e).1
unfolding act
outs-are net i u k h e t q r = ap (outs_at e) (sym (node_where_open-node net.nodes net.slots i u k h t q r))

-- ---- closing
-- nothing else has the key, so nothing else goes
others-kept : {X : Type 0} (key : X → ℕ) (xs : List X) (u : ℕ) → list_any (λ w. w == u) (map key xs) ≡ false → filter (λ x. not (key x == u)) xs ≡ xs
others-kept key [] u h = refl
others-kept {X} key (x ∷ xs) u h = go (key x == u) (list_any (λ w. w == u) (map key xs)) (λ e. others-kept key xs u e) refl h
  where
    go : (b c : Bool) → (list_any (λ w. w == u) (map key xs) ≡ false → filter (λ x. not (key x == u)) xs ≡ xs) → list_any (λ w. w == u) (map key xs) ≡ c → (b || c) ≡ false → cond (not b) (x ∷ filter (λ x. not (key x == u)) xs) (filter (λ x. not (key x == u)) xs) ≡ x ∷ xs
    go true c ih e q = absurd (false≢true (sym q))
    go false c ih e q = ap (λ ys. x ∷ ys) (ih (e ∙ q))

pub removed-is : {X : Type 0} (key : X → ℕ) (xs : List X) (u k : ℕ) → index_in (map key xs) u ≡ Some k → all_differ (map key xs) ≡ true → remove xs k ≡ filter (λ x. not (key x == u)) xs
removed-is key [] u k h d = absurd (cc)
removed-is {X} key (x ∷ xs) u k h d = go (key x == u) (index_in (map key xs) u) (λ j e d. removed-is key xs u j e d) refl refl h
  where
    parts : (not (list_any (λ w. w == key x) (map key xs)) ≡ true) × (all_differ (map key xs) ≡ true)
    parts = and_parts (not (list_any (λ w. w == key x) (map key xs))) (all_differ (map key xs)) d

    go : (b : Bool) (o : Option ℕ) → ((j : ℕ) → index_in (map key xs) u ≡ Some j → all_differ (map key xs) ≡ true → remove xs j ≡ filter (λ x. not (key x == u)) xs) → (key x == u) ≡ b → index_in (map key xs) u ≡ o → (if b then Some 0 else option_map suc o) ≡ Some k
        → remove (x ∷ xs) k ≡ cond (not b) (x ∷ filter (λ x. not (key x == u)) xs) (filter (λ x. not (key x == u)) xs)
    go true o ih y e q =
        let z : 0 ≡ k = cc in
        let none = not_is (list_any (λ w. w == key x) (map key xs)) parts.0 in
        ap (λ n. remove (x ∷ xs) n) (sym z) ∙ sym (others-kept key xs u (ap (λ v. list_any (λ w. w == v) (map key xs)) (sym (eqb-true (key x) u y)) ∙ none))
    go false None ih y e q = absurd (cc)
    go false (Some j) ih y e q = let z : suc j ≡ k = cc in ap (λ n. remove (x ∷ xs) n) (sym z) ∙ ap (λ ys. x ∷ ys) (ih j e parts.1)
