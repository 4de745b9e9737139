-- Plans to open and to close a slot, and refusals.
use Rattle.node_store.specs.Archives.{Archived}
use Rattle.std.proofs.Common.{◌≡◌, ℕ, ◌<◌, Bool, true, false, not, nat_lt, List, [], ◌∷◌, ◌++◌, length, map, Option, Some, None, is_some, Ok, Err, refl, sym, ◌∙◌, ap, subst}
use Rattle.std.specs.List.{All}
use Rattle.scp_types.specs.declared.event.Refusal.{Refusal}
use Rattle.scp_types.specs.declared.event.Refusal.TheVariants.{SlotNotOpen, SlotOpenAlready, TooManySlots}
use Rattle.scp_spec.specs.Networks.{Net, Instance, Slot, effect, first_that, room_test, is_open, instances_of_new_slot, source, tests}
use Rattle.scp_spec.specs.Networks.Step.{Opens, Closes}
use Rattle.host_network.specs.Deeds.{IsPlan, IsRoom, IsSlotThere, index_of_slot}
use Rattle.host_network.specs.FiledSlots.{FiledInstance, FiledSlot, IsInstanceFiled, HasDrawnNothing, counted_instance, counted_slot, instance_of_filed, slot_of}
use Rattle.host_network.specs.Standing.{IsAllowed, IsFirstRefusal, IsStanding, FiledMachine, StandsFor, machine_of}
use Rattle.host_network.specs.declared.plan.Deed.TheVariants.{Open, Close}
use Rattle.host_network.specs.declared.plan.Drawn.{Drawn}
use Rattle.host_network.proofs.Allowed.{not_open, open_then, opened_at, opened_not, passes, refuses, slot-in, stops}
use Rattle.host_network.proofs.Indexes.{index-within, mapped-length}
use Rattle.host_network.proofs.Plans.{neat-net, removed-is}

-- ---- opening
slots-in : (m : FiledMachine) (net : Net) → StandsFor (machine_of m) net → length net.slots ≡ length m.slots
slots-in m net s = ap (λ (n : Net). length n.slots) s.is ∙ mapped-length slot_of (map counted_slot m.slots) ∙ mapped-length counted_slot m.slots

budget-in : (m : FiledMachine) (net : Net) → StandsFor (machine_of m) net → net.budgets.slots ≡ m.config.budgets.slots
budget-in m net s = ap (λ (n : Net). n.budgets.slots) s.is

abbrev too_many : Net → Bool
too_many net = not (nat_lt (length net.slots) net.budgets.slots)

many-is : (m : FiledMachine) (net : Net) → StandsFor (machine_of m) net → too_many net ≡ not (nat_lt (length m.slots) m.config.budgets.slots)
many-is m net s = (λ j. not (nat_lt (slots-in m net s j) (budget-in m net s j)))

pub opens-again : (m : FiledMachine) (i k : ℕ) → IsSlotThere m i k → IsFirstRefusal (machine_of m) (Opens i) SlotOpenAlready
opens-again m i k q =
    λ net s. refuses (is_open net i) SlotOpenAlready ((too_many net, TooManySlots) ∷ room_test net (source net.roster (Opens i)) ∷ []) (opened_at net i k (slot-in m net i s ∙ q))

pub opens-again-so : (m : FiledMachine) (i : ℕ) → is_some (index_of_slot (map slot_of (machine_of m).slots) i) ≡ true → IsFirstRefusal (machine_of m) (Opens i) SlotOpenAlready
opens-again-so m i t = go (index_of_slot (map slot_of (machine_of m).slots) i) refl t
  where
    go : (o : Option ℕ) → index_of_slot (map slot_of (machine_of m).slots) i ≡ o → is_some o ≡ true → IsFirstRefusal (machine_of m) (Opens i) SlotOpenAlready
    go None q t = absurd (cc)
    go (Some k) q t = opens-again m i k q

pub none-so : {X : Type 0} (o : Option X) → is_some o ≡ false → o ≡ None
none-so None t = refl
none-so (Some x) t = absurd (cc)

opens-new : (m : FiledMachine) (net : Net) (i : ℕ) → index_of_slot (map slot_of (machine_of m).slots) i ≡ None → StandsFor (machine_of m) net → first_that (tests net (Opens i)) ≡ first_that ((too_many net, TooManySlots) ∷ room_test net (source net.roster (Opens i)) ∷ [])
opens-new m net i q s = passes (is_open net i, SlotOpenAlready) ((too_many net, TooManySlots) ∷ room_test net (source net.roster (Opens i)) ∷ []) (opened_not net i (slot-in m net i s ∙ q))

pub opens-many : (m : FiledMachine) (i : ℕ) → index_of_slot (map slot_of (machine_of m).slots) i ≡ None → not (nat_lt (length m.slots) m.config.budgets.slots) ≡ true → IsFirstRefusal (machine_of m) (Opens i) TooManySlots
opens-many m i q l =
    λ net s. opens-new m net i q s ∙ refuses (too_many net) TooManySlots (room_test net (source net.roster (Opens i)) ∷ []) (many-is m net s ∙ l)

opens-few : (m : FiledMachine) (net : Net) (i : ℕ) → index_of_slot (map slot_of (machine_of m).slots) i ≡ None → not (nat_lt (length m.slots) m.config.budgets.slots) ≡ false → StandsFor (machine_of m) net → first_that (tests net (Opens i)) ≡ first_that (room_test net (source net.roster (Opens i)) ∷ [])
opens-few m net i q l s = opens-new m net i q s ∙ passes (too_many net, TooManySlots) (room_test net (source net.roster (Opens i)) ∷ []) (many-is m net s ∙ l)

pub opens-full : (m : FiledMachine) (i : ℕ) (r : Refusal) → index_of_slot (map slot_of (machine_of m).slots) i ≡ None → not (nat_lt (length m.slots) m.config.budgets.slots) ≡ false → IsRoom m (λ o. source o (Opens i)) (Err r) → IsFirstRefusal (machine_of m) (Opens i) r
opens-full m i r q l full = λ net s. opens-few m net i q l s ∙ stops (room_test net (source net.roster (Opens i))) r [] (full net s)

pub opens-allowed : (m : FiledMachine) (i : ℕ) (d : Drawn) → index_of_slot (map slot_of (machine_of m).slots) i ≡ None → not (nat_lt (length m.slots) m.config.budgets.slots) ≡ false → IsRoom m (λ o. source o (Opens i)) (Ok d) → IsAllowed (machine_of m) (Opens i)
opens-allowed m i d q l room = λ net s. opens-few m net i q l s ∙ passes (room_test net (source net.roster (Opens i))) [] (room.1 net s)

counted-instances : (ls : List FiledInstance) → map (λ x. x.instance) (map counted_instance ls) ≡ map instance_of_filed ls
counted-instances [] = refl
counted-instances (l ∷ ls) = ap (λ (ps : List Instance). instance_of_filed l ∷ ps) (counted-instances ls)

pub opens-plan : (m : FiledMachine) (i : ℕ) (d : Drawn) (x : FiledSlot) → index_of_slot (map slot_of (machine_of m).slots) i ≡ None → not (nat_lt (length m.slots) m.config.budgets.slots) ≡ false → IsRoom m (λ o. source o (Opens i)) (Ok d)
    → x.number ≡ i → map instance_of_filed x.instances ≡ instances_of_new_slot m.config.nodes i → ((archive : Archived) → All (IsInstanceFiled archive) x.instances) → All HasDrawnNothing x.instances → IsPlan m (Opens i) (record { deed = Open x; charge = record { drawn = d; size = 0 } })
unfolding effect
opens-plan m i d x q l room number instances archived counts = record {
  allowed = opens-allowed m i d q l room;
  slots = λ net s.
      let is : map (λ y. y.instance) (map counted_instance x.instances) ≡ instances_of_new_slot net.nodes i = counted-instances x.instances ∙ instances ∙ ap (λ (n : Net). instances_of_new_slot n.nodes i) (sym s.is) in
      (λ j. net.slots ++ record { number = number j; instances = is j } ∷ []);
  outs = λ net s. refl;
  named = ap Opens (sym number);
  handed = refl;
  drawn = room.0;
  size = refl;
  there = (archived m.archive, counts);
}

-- ---- closing
pub closes-nowhere : (m : FiledMachine) (i : ℕ) → index_of_slot (map slot_of (machine_of m).slots) i ≡ None → IsFirstRefusal (machine_of m) (Closes i) SlotNotOpen
closes-nowhere m i q = λ net s. not_open m net i (room_test net (source net.roster (Closes i)) ∷ []) s q

pub closes-full : (m : FiledMachine) (i k : ℕ) (r : Refusal) → IsSlotThere m i k → IsRoom m (λ o. source o (Closes i)) (Err r) → IsFirstRefusal (machine_of m) (Closes i) r
closes-full m i k r q full = λ net s. open_then m net i k (room_test net (source net.roster (Closes i)) ∷ []) s q ∙ stops (room_test net (source net.roster (Closes i))) r [] (full net s)

pub closes-plan : (m : FiledMachine) (i k : ℕ) (d : Drawn) → IsStanding m → IsSlotThere m i k → IsRoom m (λ o. source o (Closes i)) (Ok d) → IsPlan m (Closes i) (record { deed = Close k; charge = record { drawn = d; size = 0 } })
unfolding effect
closes-plan m i k d st q room = record {
  allowed = λ net s. open_then m net i k (room_test net (source net.roster (Closes i)) ∷ []) s q ∙ passes (room_test net (source net.roster (Closes i))) [] (room.1 net s);
  slots = λ net s. removed-is (λ (x : Slot). x.number) net.slots i k (slot-in m net i s ∙ q) (neat-net (machine_of m) net st.tidy s).apart;
  outs = λ net s. refl;
  named = (i, refl);
  handed = refl;
  drawn = room.0;
  size = refl;
  there = subst (λ n. k < n) (mapped-length (λ (x : Slot). x.number) (map slot_of (machine_of m).slots)) (index-within (map (λ (x : Slot). x.number) (map slot_of (machine_of m).slots)) i k q);
}
