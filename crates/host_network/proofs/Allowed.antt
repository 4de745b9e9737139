-- What the tests of an event answer, by places.
use Rattle.std.proofs.Common.{◌≡◌, ℕ, zero, suc, ◌<◌, Bool, true, false, not, List, [], ◌∷◌, map, Some, None, is_some, option_map, slice_get, if◌then◌else◌, refl, ◌∙◌, ap, subst, arith, length}
use Rattle.scp_types.specs.declared.event.Refusal.{Refusal}
use Rattle.scp_types.specs.declared.event.Refusal.TheVariants.{NoSuchNode, SlotNotOpen}
use Rattle.scp_spec.specs.Networks.{HostedNode, Net, Slot, is_hosted, hosted_test, is_open, open_test, first_that}
use Rattle.host_config.specs.Configs.{index_in, index_of_name, names_of}
use Rattle.host_network.specs.Deeds.{IsSlotThere, index_of_slot}
use Rattle.host_network.specs.FiledSlots.{slot_of}
use Rattle.host_network.specs.Standing.{FiledMachine, StandsFor, machine_of}
use Rattle.host_network.proofs.Indexes.{at-index, at-none, index-within, mapped-length}
use Rattle.host_network.proofs.Plans.{instances_at-is, slices_of-is}

-- ---- lists of tests
pub stops : (t : Bool × Refusal) (r : Refusal) (ts : List (Bool × Refusal)) → t ≡ (true, r) → first_that (t ∷ ts) ≡ Some r
stops t r ts h = ap (λ (x : Bool × Refusal). first_that (x ∷ ts)) h

pub refuses : (b : Bool) (r : Refusal) (ts : List (Bool × Refusal)) → b ≡ true → first_that ((b, r) ∷ ts) ≡ Some r
refuses b r ts h = ap (λ x. if x then Some r else first_that ts) h

pub passes : (t : Bool × Refusal) (ts : List (Bool × Refusal)) → t.0 ≡ false → first_that (t ∷ ts) ≡ first_that ts
passes t ts h = ap (λ x. if x then Some t.1 else first_that ts) h

-- ---- hosted nodes and open slots
is_some-map : {X Y : Type 0} (f : X → Y) (xs : List X) (k : ℕ) → k < length xs → is_some (option_map f (slice_get xs k)) ≡ true
is_some-map f [] k l = absurd (omega (arith, l))
is_some-map f (x ∷ xs) zero l = refl
is_some-map f (x ∷ xs) (suc k) l = is_some-map f xs k (omega (arith, l))

pub hosted : (net : Net) (u h : ℕ) → index_in (names_of net.nodes) u ≡ Some h → is_hosted net u ≡ true
hosted net u h q =
    let l : h < length net.nodes = subst (λ n. h < n) (mapped-length (λ (x : HostedNode). x.name) net.nodes) (index-within (names_of net.nodes) u h q) in
    ap is_some (slices_of-is net.nodes u ∙ at-index (λ (x : HostedNode). x.name) (λ (x : HostedNode). x.slices) net.nodes u h q) ∙ is_some-map (λ (x : HostedNode). x.slices) net.nodes h l

pub hosted-not : (net : Net) (u : ℕ) → index_in (names_of net.nodes) u ≡ None → is_hosted net u ≡ false
hosted-not net u q = ap is_some (slices_of-is net.nodes u ∙ at-none (λ (x : HostedNode). x.name) (λ (x : HostedNode). x.slices) net.nodes u q)

pub opened_at : (net : Net) (i k : ℕ) → index_of_slot net.slots i ≡ Some k → is_open net i ≡ true
opened_at net i k q =
    let l : k < length net.slots = subst (λ n. k < n) (mapped-length (λ (x : Slot). x.number) net.slots) (index-within (map (λ (x : Slot). x.number) net.slots) i k q) in
    ap is_some (instances_at-is net.slots i ∙ at-index (λ (x : Slot). x.number) (λ (x : Slot). x.instances) net.slots i k q) ∙ is_some-map (λ (x : Slot). x.instances) net.slots k l

pub opened_not : (net : Net) (i : ℕ) → index_of_slot net.slots i ≡ None → is_open net i ≡ false
opened_not net i q = ap is_some (instances_at-is net.slots i ∙ at-none (λ (x : Slot). x.number) (λ (x : Slot). x.instances) net.slots i q)

-- ---- the networks for which a machine stands
pub node_place-in : (m : FiledMachine) (net : Net) (u : ℕ) → StandsFor (machine_of m) net → index_in (names_of net.nodes) u ≡ index_of_name m.config.nodes u
node_place-in m net u s = ap (λ (n : Net). index_in (names_of n.nodes) u) s.is

pub slot-in : (m : FiledMachine) (net : Net) (i : ℕ) → StandsFor (machine_of m) net → index_of_slot net.slots i ≡ index_of_slot (map slot_of (machine_of m).slots) i
slot-in m net i s = ap (λ (n : Net). index_of_slot n.slots i) s.is

-- ---- the tests that many events share
pub no_node : (m : FiledMachine) (net : Net) (u : ℕ) (ts : List (Bool × Refusal)) → StandsFor (machine_of m) net → index_of_name m.config.nodes u ≡ None → first_that (hosted_test net u ∷ ts) ≡ Some NoSuchNode
no_node m net u ts s h = refuses (not (is_hosted net u)) NoSuchNode ts (ap not (hosted-not net u (node_place-in m net u s ∙ h)))

pub node_then : (m : FiledMachine) (net : Net) (u h : ℕ) (ts : List (Bool × Refusal)) → StandsFor (machine_of m) net → index_of_name m.config.nodes u ≡ Some h → first_that (hosted_test net u ∷ ts) ≡ first_that ts
node_then m net u h ts s q = passes (hosted_test net u) ts (ap not (hosted net u h (node_place-in m net u s ∙ q)))

pub not_open : (m : FiledMachine) (net : Net) (i : ℕ) (ts : List (Bool × Refusal)) → StandsFor (machine_of m) net → index_of_slot (map slot_of (machine_of m).slots) i ≡ None → first_that (open_test net i ∷ ts) ≡ Some SlotNotOpen
not_open m net i ts s h = refuses (not (is_open net i)) SlotNotOpen ts (ap not (opened_not net i (slot-in m net i s ∙ h)))

pub open_then : (m : FiledMachine) (net : Net) (i k : ℕ) (ts : List (Bool × Refusal)) → StandsFor (machine_of m) net → IsSlotThere m i k → first_that (open_test net i ∷ ts) ≡ first_that ts
open_then m net i k ts s q = passes (open_test net i) ts (ap not (opened_at net i k (slot-in m net i s ∙ q)))

-- ---- limits
