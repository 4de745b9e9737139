-- Which networks a machine stands for of which a slot is erased.
use Rattle.std.specs.Prelude.{◌≡◌, ◌+◌, ◌-◌, ◌++◌, ◌∷◌, [], ◌==◌, ◌&&◌, not, cond, ℕ, Bool, true, false, List, All, Option, filter, length, map, option_map, sum_by}
use Rattle.std.proofs.Common.{◌∙◌, refl, sym, ap, subst, arith, append-nil}
use Rattle.std.proofs.lemmas.Bool.{eqb-true}
use Rattle.std.proofs.lemmas.List.Elements.{All-cons, All-head, All-nil, All-tail, All-weaker, filter-append}
use Rattle.scp_spec.specs.Hosts.{Config}
use Rattle.scp_spec.specs.Networks.{Budgets, HostedNode, Net, Slot}
use Rattle.scp_spec.specs.Rosters.{Draw, Roster, Share, drawn_on, same_share}
use Rattle.scp_spec.specs.Rosters.Share.{Own, Pair}
use Rattle.host_network.specs.FiledSlots.{AreTallied, CountedInstance, CountedSlot, IsTallied, slot_of}
use Rattle.host_network.specs.Standing.{IsStood, Machine, StandsFor, net_of}
use Rattle.live_feed.specs.declared.answering.Drawn.{Drawn}
use Rattle.live_host.specs.Futures.{moved_budgets, moved_roster}
use Rattle.live_host.specs.Erasing.{HasRoomBy, HasRoomForMore, IsErased, IsErasedBy, both_amounts, counted_slots_but, draws_but, slots_but}
use Rattle.live_host.proofs.ErasedParts.{drawn-elsewhere, filters-once, filters-swap, other-way}

-- ---- slots
counted-of-slots : (i : ℕ) (ss : List CountedSlot) → map slot_of (counted_slots_but i ss) ≡ slots_but i (map slot_of ss)
counted-of-slots i [] = refl
counted-of-slots i (s ∷ ss) = by (s.number == i) (counted-of-slots i ss)
  where
    by : (b : Bool) → map slot_of (counted_slots_but i ss) ≡ slots_but i (map slot_of ss)
        → map slot_of (cond (not b) (s ∷ counted_slots_but i ss) (counted_slots_but i ss))
        ≡ cond (not b) (slot_of s ∷ slots_but i (map slot_of ss)) (slots_but i (map slot_of ss))
    by true is = is
    by false is = ap (λ rest. slot_of s ∷ rest) is

-- ---- draws
-- what was drawn on the shares of a slot
abbrev draws_at : ℕ → List Draw → List Draw
draws_at i draws = filter (λ d. d.slot == i) draws

filters-none : {X : Type 0} (p : X → Bool) (xs : List X) → filter p (filter (λ x. not (p x)) xs) ≡ []
filters-none p [] = refl
filters-none p (x ∷ xs) = by (p x) refl (filters-none p xs)
  where
    by : (b : Bool) → p x ≡ b → filter p (filter (λ y. not (p y)) xs) ≡ []
        → filter p (cond (not b) (x ∷ filter (λ y. not (p y)) xs) (filter (λ y. not (p y)) xs)) ≡ []
    by true is none = none
    by false is none = rw is none

drawn-there : (i : ℕ) (s : Share) (ds : List Draw) → drawn_on i s (draws_at i ds) ≡ drawn_on i s ds
drawn-there i s [] = refl
drawn-there i s (d ∷ ds) = by (d.slot == i) refl (drawn-there i s ds)
  where
    by : (b : Bool) → (d.slot == i) ≡ b → drawn_on i s (draws_at i ds) ≡ drawn_on i s ds
        → drawn_on i s (cond b (d ∷ draws_at i ds) (draws_at i ds))
        ≡ cond (b && same_share d.share s) (d ∷ drawn_on i s ds) (drawn_on i s ds)
    by true there is = rw there (ap (λ rest. cond (same_share d.share s) (d ∷ rest) rest) is)
    by false there is = is

-- what was drawn on the slot by these, and on the others by those
abbrev merged : ℕ → List Draw → List Draw → List Draw
merged i ds es = draws_at i ds ++ draws_but i es

merged-there : (i : ℕ) (ds es : List Draw) → draws_at i (merged i ds es) ≡ draws_at i ds
merged-there i ds es =
    filter-append (λ d. d.slot == i) (draws_at i ds) (draws_but i es)
    ∙ ap (λ rest. draws_at i (draws_at i ds) ++ rest) (filters-none (λ d. d.slot == i) es)
    ∙ append-nil (draws_at i (draws_at i ds)) ∙ filters-once (λ d. d.slot == i) ds

merged-elsewhere : (i : ℕ) (ds es : List Draw) → draws_but i (merged i ds es) ≡ draws_but i es
merged-elsewhere i ds es =
    filter-append (λ d. not (d.slot == i)) (draws_at i ds) (draws_but i es)
    ∙ ap (λ front. front ++ draws_but i (draws_but i es))
    (filters-swap (λ d. not (d.slot == i)) (λ d. d.slot == i) ds ∙ filters-none (λ d. d.slot == i) ds)
    ∙ filters-once (λ d. not (d.slot == i)) es

drawn-by-others : (i k : ℕ) (s : Share) (ds es : List Draw) → (i == k) ≡ false → draws_but i ds ≡ draws_but i es
    → drawn_on k s ds ≡ drawn_on k s es
drawn-by-others i k s ds es off same =
    sym (drawn-elsewhere i k s ds off) ∙ ap (drawn_on k s) same ∙ drawn-elsewhere i k s es off

drawn-merged : (i k : ℕ) (s : Share) (ds es : List Draw) → (k == i) ≡ true → drawn_on k s (merged i ds es) ≡ drawn_on k s ds
drawn-merged i k s ds es on =
    subst (λ n. drawn_on n s (merged i ds es) ≡ drawn_on n s ds) (sym (eqb-true k i on))
    (sym (drawn-there i s (merged i ds es)) ∙ ap (drawn_on i s) (merged-there i ds es) ∙ drawn-there i s ds)

-- ---- counts of nodes
tallied-same : (k : ℕ) (ds es : List Draw) (x : CountedInstance) → ((s : Share) → drawn_on k s ds ≡ drawn_on k s es)
    → IsTallied k ds x → IsTallied k es x
tallied-same k ds es x same tallied = record {
  own = tallied.own ∙ ap length (same (Own x.instance.node.name));
  events = λ u. tallied.events u ∙ ap length (same (Pair x.instance.node.name u));
  bytes = λ u. tallied.bytes u ∙ ap (sum_by (λ d. d.size)) (same (Pair x.instance.node.name u));
}

abbrev IsSlotTallied : List Draw → CountedSlot → Type 0
IsSlotTallied ds s = All (IsTallied s.number ds) s.instances

slot-tallied : (ds es : List Draw) (s : CountedSlot) → ((t : Share) → drawn_on s.number t ds ≡ drawn_on s.number t es)
    → IsSlotTallied ds s → IsSlotTallied es s
slot-tallied ds es s same tallied =
    All-weaker (IsTallied s.number ds) (IsTallied s.number es) (λ x. tallied-same s.number ds es x same) s.instances tallied

left-tallied : (i : ℕ) (ds es : List Draw) (ss : List CountedSlot) → draws_but i ds ≡ draws_but i es → AreTallied ds ss
    → AreTallied es (counted_slots_but i ss)
left-tallied i ds es [] same tallied = All-nil (IsSlotTallied es)
left-tallied i ds es (s ∷ ss) same tallied =
    by (s.number == i) refl (All-head (IsSlotTallied ds) s ss tallied)
    (left-tallied i ds es ss same (All-tail (IsSlotTallied ds) s ss tallied))
  where
    by : (b : Bool) → (s.number == i) ≡ b → IsSlotTallied ds s → AreTallied es (counted_slots_but i ss)
        → AreTallied es (cond (not b) (s ∷ counted_slots_but i ss) (counted_slots_but i ss))
    by true there one rest = rest
    by false there one rest =
        All-cons (IsSlotTallied es) s (counted_slots_but i ss)
        (slot-tallied ds es s (λ t. drawn-by-others i s.number t ds es (other-way s.number i there) same) one) rest

merged-tallied : (i : ℕ) (ds es : List Draw) (ss : List CountedSlot) → AreTallied ds ss → AreTallied es (counted_slots_but i ss)
    → AreTallied (merged i ds es) ss
merged-tallied i ds es [] all left = All-nil (IsSlotTallied (merged i ds es))
merged-tallied i ds es (s ∷ ss) all left =
    by (s.number == i) refl left (All-head (IsSlotTallied ds) s ss all)
    (merged-tallied i ds es ss (All-tail (IsSlotTallied ds) s ss all))
  where
    by : (b : Bool) → (s.number == i) ≡ b → AreTallied es (cond (not b) (s ∷ counted_slots_but i ss) (counted_slots_but i ss))
        → IsSlotTallied ds s → (AreTallied es (counted_slots_but i ss) → AreTallied (merged i ds es) ss)
        → AreTallied (merged i ds es) (s ∷ ss)
    by true there rest one others =
        All-cons (IsSlotTallied (merged i ds es)) s ss
        (slot-tallied ds (merged i ds es) s (λ t. sym (drawn-merged i s.number t ds es there)) one)
        (others rest)
    by false there rest one others =
        All-cons (IsSlotTallied (merged i ds es)) s ss
        (slot-tallied es (merged i ds es) s
        (λ t. drawn-by-others i s.number t es (merged i ds es) (other-way s.number i there)
        (sym (merged-elsewhere i ds es)))
        (All-head (IsSlotTallied es) s (counted_slots_but i ss) rest))
        (others (All-tail (IsSlotTallied es) s (counted_slots_but i ss) rest))

-- ---- networks
-- a network of which what is left is one for which the machine stands that is left
pub record IsWhole (i : ℕ) (rest lost : Drawn) (m : Machine) (left net : Net) : Type 0 where
  pub stands : StandsFor m net
  pub erased : IsErased i rest lost net left

pub whole : (i : ℕ) (rest lost : Drawn) (m left : Machine) → IsStood m → IsErasedBy i rest lost m left
    → (n : Net) → StandsFor left n → (net : Net) × IsWhole i rest lost m n net
whole i rest lost m left (draws, tallied) h n stands = (
  net_of m (merged i draws n.draws),
  record {
    stands = record {
      is = refl;
      tallied = merged-tallied i draws n.draws m.slots tallied (subst (AreTallied n.draws) h.slots stands.tallied);
    };
    erased = record {
      number = ap (λ x. x.number) stands.is ∙ h.number;
      nodes = ap (λ x. x.nodes) stands.is ∙ h.nodes;
      slots = ap (λ x. x.slots) stands.is ∙ ap (map slot_of) h.slots ∙ counted-of-slots i m.slots;
      draws = sym (merged-elsewhere i draws n.draws);
      budgets = h.budgets ∙ ap (λ x. moved_budgets (both_amounts lost rest) x.budgets) (sym stands.is);
      roster = h.roster ∙ ap (λ x. option_map (moved_roster (both_amounts lost rest)) x.roster) (sym stands.is);
      events = h.events ∙ ap (λ x. x.events + lost.events) (sym stands.is);
      bytes = h.bytes ∙ ap (λ x. x.bytes + lost.bytes) (sym stands.is);
      opens = h.opens ∙ ap (λ x. x.opens + lost.opens) (sym stands.is);
    };
  },
)

-- the machine that is left, with this configuration
abbrev pub left_of : Config → ℕ → Drawn → Machine → Machine
left_of c i lost m = record {
  config = c;
  slots = counted_slots_but i m.slots;
  events = m.events - lost.events;
  bytes = m.bytes - lost.bytes;
  opens = m.opens - lost.opens;
}

-- a network has this configuration
pub record IsOf (c : Config) (net : Net) : Type 0 where
  pub number : net.number ≡ c.number
  pub nodes : net.nodes ≡ c.nodes
  pub budgets : net.budgets ≡ c.budgets
  pub roster : net.roster ≡ c.roster

abbrev net_with : ℕ → List HostedNode → Budgets → Option Roster → List Slot → ℕ → ℕ → ℕ → List Draw → Net
net_with number nodes budgets roster slots events bytes opens draws = record {
  number = number;
  nodes = nodes;
  budgets = budgets;
  roster = roster;
  slots = slots;
  events = events;
  bytes = bytes;
  opens = opens;
  draws = draws;
}

same-net : (n : Net) (c : Config) (slots : List Slot) (events bytes opens : ℕ) → IsOf c n → n.slots ≡ slots
    → n.events ≡ events → n.bytes ≡ bytes → n.opens ≡ opens
    → n ≡ net_with c.number c.nodes c.budgets c.roster slots events bytes opens n.draws
same-net n c slots events bytes opens of same-slots same-events same-bytes same-opens =
    ap (λ x. net_with x n.nodes n.budgets n.roster n.slots n.events n.bytes n.opens n.draws) of.number
    ∙ ap (λ x. net_with c.number x n.budgets n.roster n.slots n.events n.bytes n.opens n.draws) of.nodes
    ∙ ap (λ x. net_with c.number c.nodes x n.roster n.slots n.events n.bytes n.opens n.draws) of.budgets
    ∙ ap (λ x. net_with c.number c.nodes c.budgets x n.slots n.events n.bytes n.opens n.draws) of.roster
    ∙ ap (λ x. net_with c.number c.nodes c.budgets c.roster x n.events n.bytes n.opens n.draws) same-slots
    ∙ ap (λ x. net_with c.number c.nodes c.budgets c.roster slots x n.bytes n.opens n.draws) same-events
    ∙ ap (λ x. net_with c.number c.nodes c.budgets c.roster slots events x n.opens n.draws) same-bytes
    ∙ ap (λ x. net_with c.number c.nodes c.budgets c.roster slots events bytes x n.draws) same-opens

less-of : (a b c n : ℕ) → n ≡ c → n ≡ a + b → a ≡ c - b
less-of a b c n is so = omega arith

-- it stands for what is left of a network for which the whole one stands
pub stands-left : (c : Config) (i : ℕ) (rest lost : Drawn) (m : Machine) (net n : Net) → StandsFor m net
    → IsErased i rest lost net n → IsOf c n → StandsFor (left_of c i lost m) n
stands-left c i rest lost m net n stands h of = record {
  is = same-net n c (map slot_of (counted_slots_but i m.slots)) (m.events - lost.events) (m.bytes - lost.bytes)
      (m.opens - lost.opens) of
      (h.slots ∙ ap (λ x. slots_but i x.slots) stands.is ∙ sym (counted-of-slots i m.slots))
      (less-of n.events lost.events m.events net.events (ap (λ x. x.events) stands.is) h.events)
      (less-of n.bytes lost.bytes m.bytes net.bytes (ap (λ x. x.bytes) stands.is) h.bytes)
      (less-of n.opens lost.opens m.opens net.opens (ap (λ x. x.opens) stands.is) h.opens);
  tallied = left-tallied i net.draws n.draws m.slots (sym h.draws) stands.tallied;
}

more-of : (a b c n : ℕ) → n ≡ c → n ≡ a + b → c ≡ (c - b) + b
more-of a b c n is so = omega arith

-- and it is what is left
pub erased-left : (c : Config) (i : ℕ) (rest lost : Drawn) (m : Machine) (net n : Net) → StandsFor m net
    → IsErased i rest lost net n → IsOf c n → IsErasedBy i rest lost m (left_of c i lost m)
erased-left c i rest lost m net n stands h of = record {
  number = sym of.number ∙ h.number ∙ ap (λ x. x.number) stands.is;
  nodes = sym of.nodes ∙ h.nodes ∙ ap (λ x. x.nodes) stands.is;
  slots = refl;
  budgets = sym (ap (λ x. x.budgets) stands.is) ∙ h.budgets ∙ ap (moved_budgets (both_amounts lost rest)) of.budgets;
  roster = sym (ap (λ x. x.roster) stands.is) ∙ h.roster ∙ ap (option_map (moved_roster (both_amounts lost rest))) of.roster;
  events = more-of n.events lost.events m.events net.events (ap (λ x. x.events) stands.is) h.events;
  bytes = more-of n.bytes lost.bytes m.bytes net.bytes (ap (λ x. x.bytes) stands.is) h.bytes;
  opens = more-of n.opens lost.opens m.opens net.opens (ap (λ x. x.opens) stands.is) h.opens;
}

-- some network is left
pub some-left : (i : ℕ) (rest lost : Drawn) (m left : Machine) → IsStood m → IsErasedBy i rest lost m left
    → (n : Net) × StandsFor left n
some-left i rest lost m left (draws, tallied) h = (
  net_of left draws,
  record {
    is = refl;
    tallied = subst (AreTallied draws) (sym h.slots) (left-tallied i draws draws m.slots refl tallied);
  },
)

pub is-of : (m : Machine) (net : Net) → StandsFor m net → IsOf m.config net
is-of m net stands = record {
  number = ap (λ x. x.number) stands.is;
  nodes = ap (λ x. x.nodes) stands.is;
  budgets = ap (λ x. x.budgets) stands.is;
  roster = ap (λ x. x.roster) stands.is;
}

pub room-of : (rest : Drawn) (m : Machine) (net : Net) → StandsFor m net → HasRoomBy rest m → HasRoomForMore rest net
room-of rest m net stands room =
    subst (HasRoomForMore rest) (sym stands.is)
    (record { events = room.events; bytes = room.bytes; opens = room.opens })
