-- What holds of all in a list holds at a place of it.
use Rattle.std.proofs.Common.{◌≡◌, ℕ, ◌<◌, List, length, map, get_or, Option, Some, None, option_map, slice_get, refl, sym, ◌∙◌, ap, subst}
use Rattle.std.specs.Prelude.{IfSome}
use Rattle.std.specs.Borrow.{Bor}
use Rattle.std.specs.List.{All}
use Rattle.std.proofs.lemmas.Option.{same_Some, slice_get-map, slice_get_read, slice_get_within, get_or_from_slice_get}
use Rattle.node_store.specs.Archives.{Archived, AreFiled, IsFiled}
use Rattle.node_store.specs.declared.filed.Filed.{Filed}
use Rattle.host_network.specs.FiledSlots.{AreSlotsFiled, CountedInstance, CountedSlot, FiledInstance, FiledSlot, IsInstanceFiled, counted_instance, counted_slot}
use Rattle.host_network.proofs.Indexes.{mapped-length}

pub all-at : {X : Type 0} (P : X → Type 0) (xs : List X) (k : ℕ) (x : X) → All P xs → slice_get xs k ≡ Some x → P x
all-at P xs k x a h = subst P (get_or_from_slice_get xs k x x h) (a k x (slice_get_within xs k x h))

-- what is read there is filed
pub filed-at : (archive : Archived) (fs : List Filed) (k : ℕ) (o : Option (Bor Filed)) → AreFiled archive fs → option_map (λ f. f.now) o ≡ slice_get fs k → IfSome o (λ f. IsFiled archive f.now)
filed-at archive fs k None a e = tt
filed-at archive fs k (Some f) a e = all-at (IsFiled archive) fs k f.now a (sym e)

-- a node that is read there is archived
pub archived-at : (archive : Archived) (slots : List FiledSlot) (k h : ℕ) (x : FiledSlot) (ps : List FiledInstance) (p : FiledInstance) (s : CountedSlot) (y : CountedInstance) → AreSlotsFiled archive slots → slice_get (map counted_slot slots) k ≡ Some s → slice_get s.instances h ≡ Some y → x ≡ get_or slots k x → ps ≡ x.instances → p ≡ get_or ps h p
    → IsInstanceFiled archive p
archived-at archive slots k h x ps p s y all a b xe pe ye =
    let l : k < length slots = subst (λ n. k < n) (mapped-length counted_slot slots) (slice_get_within (map counted_slot slots) k s a) in
    let e : counted_slot x ≡ s = same_Some (counted_slot x) s (sym (slice_get-map counted_slot slots k ∙ ap (option_map counted_slot) (slice_get_read slots (length slots) k x refl l xe)) ∙ a) in
    let lh : h < length x.instances = subst (λ n. h < n) (mapped-length counted_instance x.instances) (slice_get_within (map counted_instance x.instances) h y (ap (λ (z : CountedSlot). slice_get z.instances h) e ∙ b)) in
    let one : All (IsInstanceFiled archive) x.instances = subst (λ (z : FiledSlot). All (IsInstanceFiled archive) z.instances) (sym xe) (all k x l) in
    subst (IsInstanceFiled archive) (sym ye) (subst (λ (qs : List FiledInstance). IsInstanceFiled archive (get_or qs h p)) (sym pe) (one h p lh))
