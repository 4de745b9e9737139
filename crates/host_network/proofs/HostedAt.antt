-- A hosted node at a slot, by its place.
use Rattle.std.proofs.Common.{◌≡◌, ℕ, Bool, true, false, ◌&&◌, ◌==◌, Option, Some, None, is_some, slice_get, List, [], ◌∷◌, map, option_map, if◌then◌else◌, refl, sym, ◌∙◌, ap}
use Rattle.std.specs.List.{AllByRecursion}
use Rattle.std.proofs.lemmas.Bool.{and_from, and_left, and_right}
use Rattle.scp_spec.specs.Networks.{Net, Instance, Slot, is_hosted, is_open, node_where_open, instances_at, slices_of}
use Rattle.host_config.specs.Configs.{index_in, index_of_name, names_of}
use Rattle.host_network.specs.Deeds.{IsCountedInstance, index_of_slot, instance_at}
use Rattle.host_network.specs.FiledSlots.{CountedInstance, slot_of}
use Rattle.host_network.specs.Standing.{IsStanding, FiledMachine, StandsFor, machine_of}
use Rattle.host_network.proofs.Indexes.{at-none}
use Rattle.host_network.proofs.Plans.{node_where_open-node, neat-net, node_named-is, instances_at-is, counted-instance}
use Rattle.host_network.proofs.Allowed.{node_place-in, hosted, hosted-not, opened_at, opened_not, slot-in}

-- the hosted names are those of the configuration
same-hosted : (m : FiledMachine) (net : Net) (u : ℕ) → StandsFor (machine_of m) net → is_hosted net u ≡ is_some (slices_of m.config.nodes u)
same-hosted m net u s = ap (λ (n : Net). is_hosted n u) s.is

-- ---- the slot is not open
pub closed-none : (m : FiledMachine) (i u : ℕ) → index_of_slot (map slot_of (machine_of m).slots) i ≡ None → (net : Net) → StandsFor (machine_of m) net → None ≡ node_where_open (instances_at net.slots i) u
closed-none m i u h net s =
    sym (ap (λ (o : Option (List Instance)). node_where_open o u) (instances_at-is net.slots i ∙ at-none (λ (x : Slot). x.number) (λ (x : Slot). x.instances) net.slots i (slot-in m net i s ∙ h)))

pub closed-not : (m : FiledMachine) (i u : ℕ) → index_of_slot (map slot_of (machine_of m).slots) i ≡ None → (net : Net) → StandsFor (machine_of m) net → false ≡ (is_open net i && is_some (slices_of m.config.nodes u))
closed-not m i u h net s = sym (and_left (is_open net i) (is_some (slices_of m.config.nodes u)) (opened_not net i (slot-in m net i s ∙ h)))

-- ---- the node is not hosted
unknown : (ns : List ℕ) (slots : List Slot) (i u : ℕ) → AllByRecursion (λ s. map (λ x. x.node.name) s.instances ≡ ns) slots → index_in ns u ≡ None → node_where_open (instances_at slots i) u ≡ None
unknown ns [] i u a h = refl
unknown ns (s ∷ ss) i u a h = go (s.number == i) (unknown ns ss i u a.1 h)
  where
    go : (b : Bool) → node_where_open (instances_at ss i) u ≡ None → node_where_open (if b then Some s.instances else instances_at ss i) u ≡ None
    go true ih = node_named-is s.instances u ∙ at-none (λ (x : Instance). x.node.name) (λ (x : Instance). x) s.instances u (ap (λ xs. index_in xs u) a.0 ∙ h)
    go false ih = ih

pub stranger-none : (m : FiledMachine) (i u : ℕ) → IsStanding m → index_of_name m.config.nodes u ≡ None → (net : Net) → StandsFor (machine_of m) net → None ≡ node_where_open (instances_at net.slots i) u
stranger-none m i u st h net s =
    sym (unknown (names_of net.nodes) net.slots i u (neat-net (machine_of m) net st.tidy s).names (node_place-in m net u s ∙ h))

pub stranger-not : (m : FiledMachine) (i u : ℕ) → index_of_name m.config.nodes u ≡ None → (net : Net) → StandsFor (machine_of m) net → false ≡ (is_open net i && is_some (slices_of m.config.nodes u))
stranger-not m i u h net s = sym (and_right (is_open net i) (is_some (slices_of m.config.nodes u)) (sym (same-hosted m net u s) ∙ hosted-not net u (node_place-in m net u s ∙ h)))

-- ---- a hosted node at an open slot
pub found-value : (m : FiledMachine) (i u k h : ℕ) (y : CountedInstance) → IsStanding m → index_of_slot (map slot_of (machine_of m).slots) i ≡ Some k → index_of_name m.config.nodes u ≡ Some h → IsCountedInstance (machine_of m) k h y
    → (net : Net) → StandsFor (machine_of m) net → Some y.instance ≡ node_where_open (instances_at net.slots i) u
found-value m i u k h y st slot node seat net s =
    sym (node_where_open-node net.nodes net.slots i u k h (neat-net (machine_of m) net st.tidy s) (slot-in m net i s ∙ slot) (node_place-in m net u s ∙ node)
    ∙ ap (λ (n : Net). instance_at (slice_get n.slots k) h) s.is ∙ counted-instance (machine_of m) k h y seat)

pub found-there : (m : FiledMachine) (i u k h : ℕ) → index_of_slot (map slot_of (machine_of m).slots) i ≡ Some k → index_of_name m.config.nodes u ≡ Some h → (net : Net) → StandsFor (machine_of m) net → true ≡ (is_open net i && is_some (slices_of m.config.nodes u))
found-there m i u k h slot node net s =
    sym (and_from (is_open net i) (is_some (slices_of m.config.nodes u)) (opened_at net i k (slot-in m net i s ∙ slot)) (sym (same-hosted m net u s) ∙ hosted net u h (node_place-in m net u s ∙ node)))

-- ---- what is read of what was found
-- what is read of nothing is nothing
pub none-read : {P Q A : Type 0} (see : P → Q) (read : Q → A) (o : Option P) (x : Option Q) → option_map see o ≡ x → o ≡ None → None ≡ option_map read x
none-read see read o x is none = ap (option_map read) (sym (ap (option_map see) none) ∙ is)

-- and of what was found it is what is read of that
pub some-read : {P Q A : Type 0} (see : P → Q) (read : Q → A) (o : Option P) (x : Option Q) (p : P) (a : A) → option_map see o ≡ x → o ≡ Some p → a ≡ read (see p) → Some a ≡ option_map read x
some-read see read o x p a is some value = ap (λ (z : _). Some z) value ∙ ap (option_map read) (sym (ap (option_map see) some) ∙ is)
