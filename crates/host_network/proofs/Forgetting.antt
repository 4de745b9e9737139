-- What nobody holds is let go: what nodes at open slots hold stays.
use Rattle.std.proofs.Common.{◌≡◌, ℕ, ◌<◌, ◌≤◌, Bool, true, List, [], arith, length, take, ◌+◌, get_or, set, subst}
use Rattle.std.specs.List.{All}
use Rattle.std.proofs.lemmas.List.{take_all}
use Rattle.std.proofs.lemmas.List.Elements.{All-more}
use Rattle.node_store.specs.declared.filed.Filed.{Filed}
use Rattle.node_store.specs.Archives.{AreHeld, Archived, HoldsAll, IsHeld, only_held}
use Rattle.node_store.proofs.Growing.{held-by, held-still, stay-filed}
use Rattle.host_network.specs.FiledSlots.{AreSlotsFiled, AreSlotsHeld, FiledInstance, FiledSlot, IsInstanceFiled, IsInstanceHeld}
use Rattle.host_network.specs.Standing.{IsStanding, FiledMachine}

-- ---- what is held
abbrev pub HasInstancesHeld : List Bool → FiledSlot → Type 0
HasInstancesHeld marks s = All (IsInstanceHeld marks) s.instances

pub all-still : (old new : List Bool) (fs : List Filed) → HoldsAll old new → AreHeld old fs → AreHeld new fs
all-still old new fs kept held = λ k d l. kept (get_or fs k d) (held k d l)

pub instance-still : (old new : List Bool) (l : FiledInstance) → HoldsAll old new → IsInstanceHeld old l → IsInstanceHeld new l
instance-still old new l kept held = record { rows = all-still old new l.held.rows kept held.rows; emitted = all-still old new l.emitted kept held.emitted }

pub instances-still : (old new : List Bool) (ls : List FiledInstance) → HoldsAll old new → All (IsInstanceHeld old) ls → All (IsInstanceHeld new) ls
instances-still old new ls kept held = λ k d l. instance-still old new (get_or ls k d) kept (held k d l)

pub slots-still : (old new : List Bool) (ss : List FiledSlot) → HoldsAll old new → AreSlotsHeld old ss → AreSlotsHeld new ss
slots-still old new ss kept held = λ k d l. instances-still old new (get_or ss k d).instances kept (held k d l)

-- one more of a list
pub one-more-held : (old new : List Bool) (fs : List Filed) (i : ℕ) (f : Filed) → i < length fs → f ≡ get_or fs i f → new ≡ set old f.number true → AreHeld old (take i fs) → AreHeld new (take (i + 1) fs)
one-more-held old new fs i f l is put held =
    All-more (IsHeld new) fs i f l (all-still old new (take i fs) (held-still old new f put) held) (subst (IsHeld new) is (held-by old new f put))

pub one-more-instance : (old new : List Bool) (ls : List FiledInstance) (i : ℕ) (l : FiledInstance) → i < length ls → l ≡ get_or ls i l → HoldsAll old new → IsInstanceHeld new l
    → All (IsInstanceHeld old) (take i ls) → All (IsInstanceHeld new) (take (i + 1) ls)
one-more-instance old new ls i l within is kept one held =
    All-more (IsInstanceHeld new) ls i l within (instances-still old new (take i ls) kept held) (subst (IsInstanceHeld new) is one)

pub one-more-slot : (old new : List Bool) (ss : List FiledSlot) (i : ℕ) (s : FiledSlot) → i < length ss → s ≡ get_or ss i s → HoldsAll old new → All (IsInstanceHeld new) s.instances
    → AreSlotsHeld old (take i ss) → AreSlotsHeld new (take (i + 1) ss)
one-more-slot old new ss i s within is kept one held =
    All-more (HasInstancesHeld new) ss i s within (slots-still old new (take i ss) kept held) (subst (HasInstancesHeld new) is one)

-- all of a list
pub all-of : {X : Type 0} (P : X → Type 0) (xs : List X) (i : ℕ) → length xs ≤ i → All P (take i xs) → All P xs
all-of P xs i l all = subst (λ (ys : List _). All P ys) (take_all i xs l) all

-- ---- what is left
instance-stays : (marks : List Bool) (archive : Archived) (l : FiledInstance) → IsInstanceHeld marks l → IsInstanceFiled archive l → IsInstanceFiled (only_held marks archive) l
instance-stays marks archive l held h = record {
  table = h.table;
  rows = stay-filed marks archive l.held.rows held.rows h.rows;
  emitted = stay-filed marks archive l.emitted held.emitted h.emitted;
}

slots-stay : (marks : List Bool) (archive : Archived) (ss : List FiledSlot) → AreSlotsHeld marks ss → AreSlotsFiled archive ss → AreSlotsFiled (only_held marks archive) ss
slots-stay marks archive ss held h = λ k d l i e m. instance-stays marks archive (get_or (get_or ss k d).instances i e) (held k d l i e m) (h k d l i e m)

pub standing-still : (m : FiledMachine) (marks : List Bool) → AreSlotsHeld marks m.slots → IsStanding m → IsStanding (record m { archive = only_held marks m.archive })
standing-still m marks held h = record {
  archived = slots-stay marks m.archive m.slots held h.archived;
  tidy = h.tidy;
  stood = h.stood;
}

-- with no slot nothing is held
pub standing-empty : (m : FiledMachine) → length m.slots ≡ 0 → IsStanding m → IsStanding (record m { archive = [] })
standing-empty m none h = record {
  archived = λ k d l. absurd (omega (arith, l, none));
  tidy = h.tidy;
  stood = h.stood;
}
