-- What an event does keeps a network tidy.
use Rattle.std.proofs.Common.{◌≡◌, ℕ, Bool, true, false, not, nat_lt, length, ◌||◌, ◌==◌, List, [], ◌∷◌, ◌++◌, map, filter, cond, Option, Some, None, is_some, if◌then◌else◌, refl, sym, ◌∙◌, ap, ap₂, arith}
use Rattle.std.specs.List.{AllByRecursion, list_any}
use Rattle.std.proofs.lemmas.Bool.{false≢true, and_parts, and_from}
use Rattle.std.proofs.lemmas.Bool.Decides.{nat_tests}
use Rattle.scp_types.specs.Trees.{all_differ}
use Rattle.scp_types.specs.Statements.{Sent}
use Rattle.scp_types.specs.declared.event.NodeEvent.{NodeEvent}
use Rattle.scp_types.specs.declared.event.NodeEvent.TheVariants.{Propose, Take, NominationTimer, BallotTimer, Reslice}
use Rattle.scp_spec.specs.Nodes.{fresh}
use Rattle.scp_spec.specs.Networks.{HostedNode, Net, Instance, Slot, Step, act, act_in, act_known, effect, emission, first_that, room_test, is_open, node_where_open, after_event, instances_of_new_slot, instances_at, source, tests}
use Rattle.scp_types.specs.declared.event.Refusal.TheVariants.{SlotOpenAlready, TooManySlots}
use Rattle.scp_spec.specs.Networks.Reading.{Read, Fault}
use Rattle.scp_spec.specs.Networks.Step.{Opens, Closes, Proposes, Delivers, Hears, NominationTimerFires, BallotTimerFires, Reslices}
use Rattle.scp_spec.proofs.Nodes.Emitted.{step-self}
use Rattle.host_config.specs.Configs.{names_of}

abbrev pub names_at : List Instance → List ℕ
names_at ps = map (λ (p : Instance). p.node.name) ps

abbrev pub slot_numbers : List Slot → List ℕ
slot_numbers ss = map (λ (s : Slot). s.number) ss

-- the names at each slot, and the numbers of the slots
pub record Neat (nodes : List HostedNode) (slots : List Slot) : Type 0 where
  pub names : AllByRecursion (λ s. names_at s.instances ≡ names_of nodes) slots
  pub apart : all_differ (slot_numbers slots) ≡ true

-- ---- an event of one node
pub after_event-name : (e : NodeEvent) (p : Instance) → (after_event e p).node.name ≡ p.node.name
unfolding after_event
after_event-name e p = step-self p.node e

act-names : (u : ℕ) (e : NodeEvent) (ps : List Instance) → names_at (act_in u e ps) ≡ names_at ps
act-names u e [] = refl
act-names u e (p ∷ ps) = ap₂ (λ (n : ℕ) (ns : List ℕ). n ∷ ns) (one (p.node.name == u)) (act-names u e ps)
  where
    one : (b : Bool) → (if b then after_event e p else p).node.name ≡ p.node.name
    one true = after_event-name e p
    one false = refl

abbrev acted : ℕ → ℕ → NodeEvent → List Slot → List Slot
acted i u e slots = map {B = Slot} (λ (s : Slot). if s.number == i then record s { instances = act_in u e s.instances } else s) slots

acted-numbers : (i u : ℕ) (e : NodeEvent) (slots : List Slot) → slot_numbers (acted i u e slots) ≡ slot_numbers slots
acted-numbers i u e [] = refl
acted-numbers i u e (s ∷ ss) = ap₂ (λ (n : ℕ) (ns : List ℕ). n ∷ ns) (one (s.number == i)) (acted-numbers i u e ss)
  where
    one : (b : Bool) → (if b then record s { instances = act_in u e s.instances } else s).number ≡ s.number
    one true = refl
    one false = refl

acted-names : (ns : List ℕ) (i u : ℕ) (e : NodeEvent) (slots : List Slot) → AllByRecursion (λ s. names_at s.instances ≡ ns) slots → AllByRecursion (λ s. names_at s.instances ≡ ns) (acted i u e slots)
acted-names ns i u e [] h = tt
acted-names ns i u e (s ∷ ss) h = (one (s.number == i), acted-names ns i u e ss h.1)
  where
    one : (b : Bool) → names_at (if b then record s { instances = act_in u e s.instances } else s).instances ≡ ns
    one true = act-names u e s.instances ∙ h.0
    one false = h.0

neat-act : (net : Net) (i u : ℕ) (e : NodeEvent) → Neat net.nodes net.slots → Neat net.nodes (act net i u e).0.slots
unfolding act
neat-act net i u e n = record { names = acted-names (names_of net.nodes) i u e net.slots n.names; apart = ap all_differ (acted-numbers i u e net.slots) ∙ n.apart }

neat-known : (net : Net) (i u : ℕ) (o : Option Sent) → Neat net.nodes net.slots → Neat net.nodes (act_known net i u o).0.slots
neat-known net i u None n = n
neat-known net i u (Some e) n = neat-act net i u (Take e) n

-- ---- opening
fresh-names : (nodes : List HostedNode) (i : ℕ) → names_at (instances_of_new_slot nodes i) ≡ names_of nodes
unfolding instances_of_new_slot fresh
fresh-names [] i = refl
fresh-names (h ∷ hs) i = ap (λ (ns : List ℕ). h.name ∷ ns) (fresh-names hs i)

pub push-names : (P : Slot → Type 0) (ss : List Slot) (s : Slot) → AllByRecursion P ss → P s → AllByRecursion P (ss ++ s ∷ [])
push-names P [] s h k = (k, tt)
push-names P (x ∷ xs) s h k = (h.0, push-names P xs s h.1 k)

-- a slot that is not open has no number among them
pub absent : (ss : List Slot) (i : ℕ) → is_some (instances_at ss i) ≡ false → list_any (λ w. w == i) (slot_numbers ss) ≡ false
absent [] i h = refl
absent (s ∷ ss) i h = go (s.number == i) h (absent ss i)
  where
    go : (b : Bool) → is_some (if b then Some s.instances else instances_at ss i) ≡ false → (is_some (instances_at ss i) ≡ false → list_any (λ w. w == i) (slot_numbers ss) ≡ false) → (b || list_any (λ w. w == i) (slot_numbers ss)) ≡ false
    go true h ih = h
    go false h ih = ih h

push-any : (ns : List ℕ) (i x : ℕ) → list_any (λ w. w == x) (ns ++ i ∷ []) ≡ (list_any (λ w. w == x) ns || (i == x))
push-any [] i x = or_false (i == x)
  where
    or_false : (b : Bool) → (b || false) ≡ b
    or_false true = refl
    or_false false = refl
push-any (n ∷ ns) i x = ap (λ b. (n == x) || b) (push-any ns i x) ∙ assoc (n == x) (list_any (λ w. w == x) ns) (i == x)
  where
    assoc : (a b c : Bool) → (a || (b || c)) ≡ ((a || b) || c)
    assoc true b c = refl
    assoc false b c = refl

pub same-test : (a b : ℕ) → (a == b) ≡ (b == a)
same-test a b = grind (nat_tests, arith)

push-apart : (ns : List ℕ) (i : ℕ) → all_differ ns ≡ true → list_any (λ w. w == i) ns ≡ false → all_differ (ns ++ i ∷ []) ≡ true
push-apart [] i d a = refl
push-apart (n ∷ ns) i d a =
    let p = and_parts (not (list_any (λ w. w == n) ns)) (all_differ ns) d in
    let q = none (n == i) (list_any (λ w. w == i) ns) a in
    and_from (not (list_any (λ w. w == n) (ns ++ i ∷ []))) (all_differ (ns ++ i ∷ []))
    (ap not (push-any ns i n) ∙ both (list_any (λ w. w == n) ns) (i == n) p.0 (same-test i n ∙ q.0))
    (push-apart ns i p.1 q.1)
  where
    none : (b c : Bool) → (b || c) ≡ false → (b ≡ false) × (c ≡ false)
    none true c h = absurd (false≢true (sym h))
    none false c h = (refl, h)

    both : (b c : Bool) → not b ≡ true → c ≡ false → not (b || c) ≡ true
    both true c h k = h
    both false c h k = ap not k

push-numbers : (ss : List Slot) (s : Slot) → slot_numbers (ss ++ s ∷ []) ≡ slot_numbers ss ++ s.number ∷ []
push-numbers [] s = refl
push-numbers (x ∷ xs) s = ap (λ (ns : List ℕ). x.number ∷ ns) (push-numbers xs s)

neat-open : (net : Net) (i : ℕ) → is_open net i ≡ false → Neat net.nodes net.slots → Neat net.nodes (net.slots ++ record { number = i; instances = instances_of_new_slot net.nodes i } ∷ [])
neat-open net i out n =
    let s : Slot = record { number = i; instances = instances_of_new_slot net.nodes i } in
    record {
      names = push-names (λ s. names_at s.instances ≡ names_of net.nodes) net.slots s n.names (fresh-names net.nodes i);
      apart = ap all_differ (push-numbers net.slots s) ∙ push-apart (slot_numbers net.slots) i n.apart (absent net.slots i out);
    }

-- ---- closing
pub filter-names : (P : Slot → Type 0) (test : Slot → Bool) (ss : List Slot) → AllByRecursion P ss → AllByRecursion P (filter test ss)
filter-names P test [] h = tt
filter-names P test (s ∷ ss) h = go (test s) (filter-names P test ss h.1)
  where
    go : (b : Bool) → AllByRecursion P (filter test ss) → AllByRecursion P (cond b (s ∷ filter test ss) (filter test ss))
    go true k = (h.0, k)
    go false k = k

filter-any : (test : Slot → Bool) (ss : List Slot) (x : ℕ) → not (list_any (λ w. w == x) (slot_numbers ss)) ≡ true → not (list_any (λ w. w == x) (slot_numbers (filter test ss))) ≡ true
filter-any test [] x h = refl
filter-any test (s ∷ ss) x h = go (test s) (s.number == x) h (filter-any test ss x) refl
  where
    go : (b c : Bool) → not (c || list_any (λ w. w == x) (slot_numbers ss)) ≡ true → (not (list_any (λ w. w == x) (slot_numbers ss)) ≡ true → not (list_any (λ w. w == x) (slot_numbers (filter test ss))) ≡ true)
        → (s.number == x) ≡ c → not (list_any (λ w. w == x) (slot_numbers (cond b (s ∷ filter test ss) (filter test ss)))) ≡ true
    go b true h ih e = absurd (false≢true h)
    go true false h ih e = ap (λ c. not (c || list_any (λ w. w == x) (slot_numbers (filter test ss)))) e ∙ ih h
    go false false h ih e = ih h

filter-apart : (test : Slot → Bool) (ss : List Slot) → all_differ (slot_numbers ss) ≡ true → all_differ (slot_numbers (filter test ss)) ≡ true
filter-apart test [] h = refl
filter-apart test (s ∷ ss) h = go (test s) (filter-apart test ss p.1)
  where
    p : (not (list_any (λ w. w == s.number) (slot_numbers ss)) ≡ true) × (all_differ (slot_numbers ss) ≡ true)
    p = and_parts (not (list_any (λ w. w == s.number) (slot_numbers ss))) (all_differ (slot_numbers ss)) h

    go : (b : Bool) → all_differ (slot_numbers (filter test ss)) ≡ true → all_differ (slot_numbers (cond b (s ∷ filter test ss) (filter test ss))) ≡ true
    go true k = and_from (not (list_any (λ w. w == s.number) (slot_numbers (filter test ss)))) (all_differ (slot_numbers (filter test ss))) (filter-any test ss s.number p.0) k
    go false k = k

neat-close : (net : Net) (i : ℕ) → Neat net.nodes net.slots → Neat net.nodes (filter (λ s. not (s.number == i)) net.slots)
neat-close net i n = record { names = filter-names (λ s. names_at s.instances ≡ names_of net.nodes) (λ s. not (s.number == i)) net.slots n.names; apart = filter-apart (λ s. not (s.number == i)) net.slots n.apart }

-- ---- any event
-- a slot is opened only where it is not open
abbrev pub IsFresh : Net → Step → Type 0
IsFresh net (Opens i) = is_open net i ≡ false
IsFresh net _ = Unit {0}

pub neat : (net : Net) (e : Step) → IsFresh net e → Neat net.nodes net.slots → Neat net.nodes (effect net e).0.slots
unfolding effect
neat net (Opens i) f n = neat-open net i f n
neat net (Closes i) f n = neat-close net i n
neat net (Proposes i u x) f n = neat-act net i u (Propose x) n
neat net (Delivers u size (Read e)) f n = neat-act net e.slot u (Take e) n
neat net (Delivers u size (Fault m)) f n = n
neat net (Hears i u from kind k) f n = neat-known net i u (emission (node_where_open (instances_at net.slots i) from) kind k) n
neat net (NominationTimerFires i u r) f n = neat-act net i u (NominationTimer r) n
neat net (BallotTimerFires i u c) f n = neat-act net i u (BallotTimer c) n
neat net (Reslices i u q) f n = neat-act net i u (Reslice q) n

-- an event that nothing refuses opens no slot that is open
pub fresh-of : (net : Net) (e : Step) → first_that (tests net e) ≡ None → IsFresh net e
fresh-of net (Opens i) h = go (is_open net i) h
  where
    go : (b : Bool) → first_that ((b, SlotOpenAlready) ∷ (not (nat_lt (length net.slots) net.budgets.slots), TooManySlots) ∷ room_test net (source net.roster (Opens i)) ∷ []) ≡ None → b ≡ false
    go true h = absurd (cc)
    go false h = refl
fresh-of net (Closes i) h = tt
fresh-of net (Proposes i u x) h = tt
fresh-of net (Delivers u size d) h = tt
fresh-of net (Hears i u from kind k) h = tt
fresh-of net (NominationTimerFires i u r) h = tt
fresh-of net (BallotTimerFires i u c) h = tt
fresh-of net (Reslices i u q) h = tt
