-- One slot of those that are open.
use Rattle.std.proofs.Common.{◌≡◌, ℕ, zero, suc, ◌<◌, List, [], ◌∷◌, ◌++◌, length, map, get_or, set, take, drop, Option, Some, None, IfSome, IfOk, Result, slice_get, refl, sym, ◌∙◌, ap, subst, arith}
use Rattle.std.specs.List.{All, remove}
use Rattle.std.proofs.lemmas.List.Elements.{All-append, All-cons, All-drop, All-nil, All-set, All-take}
use Rattle.scp_types.specs.declared.event.NodeEvent.{NodeEvent}
use Rattle.scp_spec.specs.Networks.{Instance, emissions, outs_at}
use Rattle.node_store.specs.Archives.{Archived, Keeps}
use Rattle.host_network.specs.Answers.{IsOutcome}
use Rattle.host_network.specs.Charges.{HasReadyNode, HasRoomForCharge}
use Rattle.host_network.specs.Deeds.{instance_at}
use Rattle.host_network.specs.Doings.{slots_of}
use Rattle.host_network.specs.FiledSlots.{AreSlotsFiled, CountedInstance, FiledInstance, FiledSlot, IsInstanceFiled, counted_instance, instance_of_filed}
use Rattle.host_network.specs.Marks.{numbers_by_kind, emitted_at}
use Rattle.host_network.specs.declared.plan.Charge.{Charge}
use Rattle.host_network.specs.declared.applied.Outcome.{Outcome}
use Rattle.host_network.proofs.Placed.{archived-still}

pub at-get : {X : Type 0} (xs : List X) (k : ℕ) (x y : X) → slice_get xs k ≡ Some x → y ≡ get_or xs k y → y ≡ x
at-get [] k x y h is = absurd (cc)
at-get (z ∷ zs) zero x y h is = let q : z ≡ x = cc in is ∙ q
at-get (z ∷ zs) (suc k) x y h is = at-get zs k x y h is

pub within : {X : Type 0} (xs : List X) (k : ℕ) (x : X) → slice_get xs k ≡ Some x → k < length xs
within [] k x h = absurd (cc)
within (z ∷ zs) zero x h = omega arith
within (z ∷ zs) (suc k) x h = let l = within zs k x h in omega (arith, l)

nodes-are : (ps : List FiledInstance) → map (λ (x : CountedInstance). x.instance) (map counted_instance ps) ≡ map instance_of_filed ps
nodes-are [] = refl
nodes-are (p ∷ ps) = ap (λ (qs : List Instance). instance_of_filed p ∷ qs) (nodes-are ps)

seen-at : (items : List FiledSlot) (k h : ℕ) (s : FiledSlot) → slice_get items k ≡ Some s → instance_at (slice_get (slots_of items) k) h ≡ slice_get (map instance_of_filed s.instances) h
seen-at [] k h s q = absurd (cc)
seen-at (x ∷ xs) zero h s q = let e : x ≡ s = cc in ap (λ (ps : List Instance). slice_get ps h) (nodes-are x.instances) ∙ ap (λ (y : FiledSlot). slice_get (map instance_of_filed y.instances) h) e
seen-at (x ∷ xs) (suc k) h s q = seen-at xs k h s q

-- what was archived is so still
pub all-still : (old new : Archived) (xs : List FiledInstance) → Keeps old new → All (IsInstanceFiled old) xs → All (IsInstanceFiled new) xs
all-still old new xs kept all = λ k d l. archived-still old new (get_or xs k d) kept (all k d l)

pub slots-still : (old new : Archived) (ss : List FiledSlot) → Keeps old new → AreSlotsFiled old ss → AreSlotsFiled new ss
slots-still old new ss kept all = λ k d l. all-still old new (get_or ss k d).instances kept (all k d l)

pub slots-archived : (old new : Archived) (ss : List FiledSlot) (k : ℕ) (y : FiledSlot) → Keeps old new → All (IsInstanceFiled new) y.instances → AreSlotsFiled old ss → AreSlotsFiled new (set ss k y)
slots-archived old new ss k y kept one all = All-set (λ (s : FiledSlot). All (IsInstanceFiled new) s.instances) ss k y one (slots-still old new ss kept all)

-- without one slot, and with one more
pub archived-less : (archive : Archived) (ss ts : List FiledSlot) (k : ℕ) → ts ≡ remove ss k → AreSlotsFiled archive ss → AreSlotsFiled archive ts
archived-less archive ss ts k is all =
    let P = λ (s : FiledSlot). All (IsInstanceFiled archive) s.instances in
    subst (λ (us : List FiledSlot). AreSlotsFiled archive us) (sym is) (All-append P (take k ss) (drop (suc k) ss) (All-take P k ss all) (All-drop P (suc k) ss all))

pub archived-more : (archive : Archived) (ss ts : List FiledSlot) (s : FiledSlot) → ts ≡ ss ++ s ∷ [] → All (IsInstanceFiled archive) s.instances → AreSlotsFiled archive ss → AreSlotsFiled archive ts
archived-more archive ss ts s is one all =
    let P = λ (s : FiledSlot). All (IsInstanceFiled archive) s.instances in
    subst (λ (us : List FiledSlot). AreSlotsFiled archive us) (sym is) (All-append P ss (s ∷ []) all (All-cons P s [] one (All-nil P)))

pub archived-same : (archive : Archived) (ss ts : List FiledSlot) → ts ≡ ss → AreSlotsFiled archive ss → AreSlotsFiled archive ts
archived-same archive ss ts is all = subst (λ (us : List FiledSlot). AreSlotsFiled archive us) (sym is) all

-- the instance of a node
pub instance-room : (c : Charge) (items : List FiledSlot) (k h : ℕ) (y : FiledSlot) → (r : HasReadyNode c items k h) → y ≡ get_or items k y → IfSome (slice_get y.instances h) (HasRoomForCharge c)
instance-room c items k h y r is =
    let q = at-get items k r.slot y r.slot_is is in
    subst (λ (s : FiledSlot). IfSome (slice_get s.instances h) (HasRoomForCharge c)) (sym q) (subst (λ (o : Option FiledInstance). IfSome o (HasRoomForCharge c)) (sym r.instance_is) r.room)

abbrev pub IsSeen : NodeEvent → Archived → Option Instance → Outcome → Type 0
IsSeen e archive o a = IsOutcome (outs_at e o) (numbers_by_kind (emitted_at o) (emissions (outs_at e o))) None archive a

-- what its event answers
pub given-seen : {E : Type 0} (c : Charge) (items : List FiledSlot) (k h : ℕ) (y : FiledSlot) (e : NodeEvent) (archive : Archived) (result : Result Outcome E) → (r : HasReadyNode c items k h) → y ≡ get_or items k y → IfOk result (IsSeen e archive (slice_get (map instance_of_filed y.instances) h)) → IfOk result (IsSeen e archive (instance_at (slice_get (slots_of items) k) h))
given-seen c items k h y e archive result r is g =
    let q = at-get items k r.slot y r.slot_is is in
    subst (λ (o : Option Instance). IfOk result (IsSeen e archive o)) (ap (λ (s : FiledSlot). slice_get (map instance_of_filed s.instances) h) q ∙ sym (seen-at items k h r.slot r.slot_is)) g
