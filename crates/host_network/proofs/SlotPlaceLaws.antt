-- What is kept of the places of open slots, and where their numbers stand, as slots are opened and closed.
use Rattle.std.proofs.Common.{◌≡◌, ℕ, zero, suc, ◌<◌, Bool, true, false, not, ◌||◌, ◌==◌, length, get_or, take, drop, List, [], ◌∷◌, ◌++◌, map, Option, Some, None, option_map, Result, Ok, Err, OnErr, OnOk, if◌then◌else◌, refl, sym, ◌∙◌, ap, ap₂, subst, arith}
use Rattle.std.specs.List.{insert, list_any, remove}
use Rattle.std.proofs.lemmas.Bool.{false≢true, and_parts, eqb-true}
use Rattle.std.proofs.lemmas.Bool.Decides.{nat_tests}
use Rattle.std.proofs.lemmas.List.{get_or-map, get_or_default, length-map, map-append}
use Rattle.std.proofs.lemmas.Option.{slice_get_read}
use Rattle.std.proofs.Math.Seq.{take-append_seam}
use Rattle.scp_types.specs.Trees.{all_differ}
use Rattle.scp_types.specs.declared.event.NodeEvent.{NodeEvent}
use Rattle.scp_spec.specs.Networks.{Slot}
use Rattle.host_config.specs.Configs.{index_in}
use Rattle.host_network.specs.Changes.{IsChangedAt}
use Rattle.host_network.specs.Charges.{IsSlotActed}
use Rattle.host_network.specs.Doings.{slots_of}
use Rattle.host_network.specs.FiledSlots.{FiledSlot}
use Rattle.host_network.specs.SlotPlaces.{AreSlotsIndexed, slot_places_without, place_without, kept_for, kept_with, kept_without, number_kept, slot_numbers}
use Rattle.host_network.specs.declared.plan.Charge.{Charge}
use Rattle.host_network.specs.declared.slot_index.SlotPlace.{SlotPlace}
use Rattle.host_network.proofs.Indexes.{another, at-index, at-none}
use Rattle.host_network.proofs.KeyPlaces.{map-remove}
use Rattle.scp_types.proofs.Bools.{not_is}

-- ---- the first that has a key
at-first : (b : Bool) (o : Option ℕ) → (if b then Some 0 else option_map suc o) ≡ Some 0 → b ≡ true
at-first true o h = refl
at-first false None h = absurd (cc)
at-first false (Some j) h = absurd (cc)

at-later : (b : Bool) (o : Option ℕ) (k : ℕ) → (if b then Some 0 else option_map suc o) ≡ Some (suc k)
    → (b ≡ false) × (o ≡ Some k)
at-later true o k h = absurd (cc)
at-later false None k h = absurd (cc)
at-later false (Some j) k h = let z : j ≡ k = cc in (refl, ap Some z)

nowhere : (b : Bool) (o : Option ℕ) → (if b then Some 0 else option_map suc o) ≡ None → (b ≡ false) × (o ≡ None)
nowhere true o h = absurd (cc)
nowhere false None h = (refl, refl)
nowhere false (Some j) h = absurd (cc)

none-of : (ns : List ℕ) (n : ℕ) → list_any (λ w. w == n) ns ≡ false → index_in ns n ≡ None
none-of [] n h = refl
none-of (m ∷ ms) n h = go (m == n) h (none-of ms n)
  where
    go : (b : Bool) → (b || list_any (λ w. w == n) ms) ≡ false
        → (list_any (λ w. w == n) ms ≡ false → index_in ms n ≡ None)
        → (if b then Some 0 else option_map suc (index_in ms n)) ≡ None
    go true h ih = absurd (false≢true (sym h))
    go false h ih = ap (option_map suc) (ih h)

-- numbers that differ: the first is not among the others
record Apart (m : ℕ) (ms : List ℕ) : Type 0 where
  first : index_in ms m ≡ None
  rest : all_differ ms ≡ true

apart : (m : ℕ) (ms : List ℕ) → all_differ (m ∷ ms) ≡ true → Apart m ms
apart m ms d =
    let p = and_parts (not (list_any (λ w. w == m) ms)) (all_differ ms) d in
    record { first = none-of ms m (not_is (list_any (λ w. w == m) ms) p.0); rest = p.1 }

-- a number that differs from the others stands where it stands
pub index-at : (ns : List ℕ) (k n : ℕ) → all_differ ns ≡ true → k < length ns → get_or ns k 0 ≡ n
    → index_in ns n ≡ Some k
index-at [] k n d l is = absurd (omega (arith, l))
index-at (m ∷ ms) zero n d l is = ap (λ b. if b then Some 0 else option_map suc (index_in ms n)) (same m n is)
  where
    same : (a b : ℕ) → a ≡ b → (a == b) ≡ true
    same a b e = grind (arith, nat_tests, e)
index-at (m ∷ ms) (suc k) n d l is =
    let p = apart m ms d in
    let there = index-at ms k n p.rest (omega (arith, l)) is in
    go (m == n) refl there
  where
    go : (b : Bool) → (m == n) ≡ b → index_in ms n ≡ Some k
        → (if b then Some 0 else option_map suc (index_in ms n)) ≡ Some (suc k)
    go true e q = let z : index_in ms n ≡ None = ap (index_in ms) (sym (eqb-true m n e)) ∙ (apart m ms d).first in absurd (cc)
    go false e q = ap (option_map suc) q

-- ---- without one of them
closed-first : (n : ℕ) → place_without 0 (suc n) ≡ n
closed-first n = grind (arith, nat_tests)

closed-none : (k : ℕ) → place_without (suc k) 0 ≡ 0
closed-none k = grind (arith, nat_tests)

closed-more : (k n : ℕ) → place_without (suc k) (suc n) ≡ suc (place_without k n)
closed-more k n = grind (arith, nat_tests)

pub index-removed : (ns : List ℕ) (n k i : ℕ) → all_differ ns ≡ true → index_in ns n ≡ Some k
    → index_in (remove ns k) i ≡ (if n == i then None else option_map (place_without k) (index_in ns i))
index-removed [] n k i d h = absurd (cc)
index-removed (m ∷ ms) n zero i d h =
    let same = eqb-true m n (at-first (m == n) (index_in ms n) h) in
    subst (λ x. index_in ms i ≡ (if x == i then None else option_map (place_without 0) (if m == i then Some 0 else option_map suc (index_in ms i)))) same (go (m == i) refl)
  where
    back : (o : Option ℕ) → o ≡ option_map (place_without 0) (option_map suc o)
    back None = refl
    back (Some j) = ap Some (sym (closed-first j))

    go : (b : Bool) → (m == i) ≡ b
        → index_in ms i ≡ (if b then None else option_map (place_without 0) (if b then Some 0 else option_map suc (index_in ms i)))
    go true e = ap (index_in ms) (sym (eqb-true m i e)) ∙ (apart m ms d).first
    go false e = back (index_in ms i)
index-removed (m ∷ ms) n (suc k) i d h =
    let p = at-later (m == n) (index_in ms n) k h in
    go (m == i) (n == i) (another m n i p.0) refl refl (index-removed ms n k i (apart m ms d).rest p.1)
  where
    more : (c : Bool) (o : Option ℕ)
        → option_map suc (if c then None else option_map (place_without k) o) ≡ (if c then None else option_map (place_without (suc k)) (option_map suc o))
    more true o = refl
    more false None = refl
    more false (Some j) = ap Some (sym (closed-more k j))

    go : (b c : Bool) → ((m == i) ≡ true → (n == i) ≡ false) → (m == i) ≡ b → (n == i) ≡ c
        → index_in (remove ms k) i ≡ (if c then None else option_map (place_without k) (index_in ms i))
        → (if b then Some 0 else option_map suc (index_in (remove ms k) i)) ≡ (if c then None else option_map (place_without (suc k)) (if b then Some 0 else option_map suc (index_in ms i)))
    go true true other e f ih = absurd (false≢true (sym (other e) ∙ f))
    go true false other e f ih = ap Some (sym (closed-none k))
    go false c other e f ih = ap (option_map suc) ih ∙ more c (index_in ms i)

kept-removed : (es : List SlotPlace) (n k i : ℕ) → all_differ (map number_kept es) ≡ true
    → index_in (map number_kept es) n ≡ Some k → kept_for (remove es k) i ≡ (if n == i then None else kept_for es i)
kept-removed [] n k i d h = absurd (cc)
kept-removed (e ∷ es) n zero i d h =
    let same = eqb-true e.number n (at-first (e.number == n) (index_in (map number_kept es) n) h) in
    subst (λ x. kept_for es i ≡ (if x == i then None else kept_for (e ∷ es) i)) same (go (e.number == i) refl)
  where
    go : (b : Bool) → (e.number == i) ≡ b
        → kept_for es i ≡ (if b then None else (if b then Some e.place else kept_for es i))
    go true q = at-none number_kept (λ (x : SlotPlace). x.place) es i (ap (index_in (map number_kept es)) (sym (eqb-true e.number i q)) ∙ (apart e.number (map number_kept es) d).first)
    go false q = refl
kept-removed (e ∷ es) n (suc k) i d h =
    let p = at-later (e.number == n) (index_in (map number_kept es) n) k h in
    go (e.number == i) (n == i) (another e.number n i p.0) refl refl (kept-removed es n k i (apart e.number (map number_kept es) d).rest p.1)
  where
    go : (b c : Bool) → ((e.number == i) ≡ true → (n == i) ≡ false) → (e.number == i) ≡ b → (n == i) ≡ c
        → kept_for (remove es k) i ≡ (if c then None else kept_for es i)
        → (if b then Some e.place else kept_for (remove es k) i) ≡ (if c then None else (if b then Some e.place else kept_for es i))
    go true true other q f ih = absurd (false≢true (sym (other q) ∙ f))
    go true false other q f ih = refl
    go false c other q f ih = ih

kept-closed : (es : List SlotPlace) (k i : ℕ)
    → kept_for (slot_places_without k es) i ≡ option_map (place_without k) (kept_for es i)
kept-closed [] k i = refl
kept-closed (e ∷ es) k i = go (e.number == i) (kept-closed es k i)
  where
    go : (b : Bool) → kept_for (slot_places_without k es) i ≡ option_map (place_without k) (kept_for es i)
        → (if b then Some (place_without k e.place) else kept_for (slot_places_without k es) i) ≡ option_map (place_without k) (if b then Some e.place else kept_for es i)
    go true ih = refl
    go false ih = ih

pub kept-gone : (es : List SlotPlace) (n k place i : ℕ) → all_differ (map number_kept es) ≡ true
    → index_in (map number_kept es) n ≡ Some k
    → kept_for (slot_places_without place (remove es k)) i ≡ kept_without n place es i
kept-gone es n k place i d h = kept-closed (remove es k) place i ∙ ap (option_map (place_without place)) (kept-removed es n k i d h) ∙ go (n == i)
  where
    go : (b : Bool)
        → option_map (place_without place) (if b then None else kept_for es i) ≡ (if b then None else option_map (place_without place) (kept_for es i))
    go true = refl
    go false = refl

-- what is written back into a list whose length stays
pub written-back : (es rest lent new : List SlotPlace) (n k at : ℕ) → rest ≡ remove es at → lent ≡ rest
    → new ≡ slot_places_without k lent → n ≡ length rest
    → take n (new ++ drop (length new) rest) ≡ slot_places_without k (remove es at)
written-back es rest lent new n k at r l c m =
    let same : length new ≡ length rest = ap length c ∙ length-map lent (λ (e : SlotPlace). record { number = e.number; place = place_without k e.place }) ∙ ap length l in
    ap (λ (j : ℕ). take j (new ++ drop (length new) rest)) (m ∙ sym same)
    ∙ take-append_seam new (drop (length new) rest) ∙ c ∙ ap (slot_places_without k) (l ∙ r)

pub closed-keys : (k : ℕ) (es : List SlotPlace) → map number_kept (slot_places_without k es) ≡ map number_kept es
closed-keys k [] = refl
closed-keys k (e ∷ es) = ap (λ (ns : List ℕ). e.number ∷ ns) (closed-keys k es)

-- ---- with one more
pub index-pushed : (ns : List ℕ) (n i : ℕ) → index_in ns n ≡ None
    → index_in (ns ++ n ∷ []) i ≡ (if n == i then Some (length ns) else index_in ns i)
index-pushed [] n i h = refl
index-pushed (m ∷ ms) n i h =
    let p = nowhere (m == n) (index_in ms n) h in
    go (m == i) (n == i) (another m n i p.0) refl refl (index-pushed ms n i p.1)
  where
    more : (c : Bool)
        → option_map suc (if c then Some (length ms) else index_in ms i) ≡ (if c then Some (suc (length ms)) else option_map suc (index_in ms i))
    more true = refl
    more false = refl

    go : (b c : Bool) → ((m == i) ≡ true → (n == i) ≡ false) → (m == i) ≡ b → (n == i) ≡ c
        → index_in (ms ++ n ∷ []) i ≡ (if c then Some (length ms) else index_in ms i)
        → (if b then Some 0 else option_map suc (index_in (ms ++ n ∷ []) i)) ≡ (if c then Some (suc (length ms)) else (if b then Some 0 else option_map suc (index_in ms i)))
    go true true other e f ih = absurd (false≢true (sym (other e) ∙ f))
    go true false other e f ih = refl
    go false c other e f ih = ap (option_map suc) ih ∙ more c

pub kept-insert : (es : List SlotPlace) (n place at i : ℕ) → index_in (map number_kept es) n ≡ None
    → kept_for (insert es at (record { number = n; place = place })) i ≡ kept_with n place es i
kept-insert es n place zero i h = refl
kept-insert [] n place (suc at) i h = refl
kept-insert (e ∷ es) n place (suc at) i h =
    let p = nowhere (e.number == n) (index_in (map number_kept es) n) h in
    go (e.number == i) (n == i) (another e.number n i p.0) refl refl (kept-insert es n place at i p.1)
  where
    go : (b c : Bool) → ((e.number == i) ≡ true → (n == i) ≡ false) → (e.number == i) ≡ b → (n == i) ≡ c
        → kept_for (insert es at (record { number = n; place = place })) i ≡ (if c then Some place else kept_for es i)
        → (if b then Some e.place else kept_for (insert es at (record { number = n; place = place })) i) ≡ (if c then Some place else (if b then Some e.place else kept_for es i))
    go true true other q f ih = absurd (false≢true (sym (other q) ∙ f))
    go true false other q f ih = refl
    go false c other q f ih = ih

-- ---- what a search finds
pub kept-at : (es : List SlotPlace) (n at : ℕ) (x : SlotPlace) → index_in (map number_kept es) n ≡ Some at
    → at < length es → x ≡ get_or es at x → kept_for es n ≡ Some x.place
kept-at es n at x h l is = at-index number_kept (λ (e : SlotPlace). e.place) es n at h ∙ ap (option_map (λ (e : SlotPlace). e.place)) (slice_get_read es (length es) at x refl l is)

pub kept-nowhere : (es : List SlotPlace) (n : ℕ) → index_in (map number_kept es) n ≡ None → kept_for es n ≡ None
kept-nowhere es n h = at-none number_kept (λ (e : SlotPlace). e.place) es n h

-- what is found is kept
pub kept-so : (es : List SlotPlace) (n at : ℕ) → index_in (map number_kept es) n ≡ Some at → at < length es
    → kept_for es n ≡ None → ⊥
kept-so es n at h l none =
    let d : SlotPlace = record { number = 0; place = 0 } in
    let there = kept-at es n at (get_or es at d) h l (get_or_default es at d (get_or es at d) l) in
    absurd (cc)

-- ---- the index of open slots
abbrev number_at : FiledSlot → ℕ
number_at s = s.number

pub numbers-are : (ss : List FiledSlot) → map (λ (s : Slot). s.number) (slots_of ss) ≡ slot_numbers ss
numbers-are [] = refl
numbers-are (s ∷ ss) = ap (λ (ns : List ℕ). s.number ∷ ns) (numbers-are ss)

pub stands-at : (slots : List FiledSlot) (k : ℕ) (x : FiledSlot) → all_differ (slot_numbers slots) ≡ true → k < length slots
    → x ≡ get_or slots k x → index_in (slot_numbers slots) x.number ≡ Some k
stands-at slots k x d l is =
    index-at (slot_numbers slots) k x.number d (subst (λ n. k < n) (sym (length-map slots number_at)) l)
    (get_or-map number_at slots k x 0 l ∙ sym (ap number_at is))

pub indexed-more : (slots : List FiledSlot) (s : FiledSlot) (old new : List SlotPlace)
    → index_in (slot_numbers slots) s.number ≡ None → AreSlotsIndexed slots old
    → ((i : ℕ) → kept_for new i ≡ kept_with s.number (length slots) old i) → AreSlotsIndexed (slots ++ s ∷ []) new
indexed-more slots s old new none indexed noted = record {
  finds = λ i. noted i
      ∙ ap₂ (λ (n : ℕ) (o : Option ℕ). if s.number == i then Some n else o) (sym (length-map slots number_at)) (indexed.finds i)
      ∙ sym (index-pushed (slot_numbers slots) s.number i none)
      ∙ ap (λ ns. index_in ns i) (sym (map-append number_at slots (s ∷ [])));
}

pub indexed-less : (slots : List FiledSlot) (k : ℕ) (x : FiledSlot) (old new : List SlotPlace)
    → all_differ (slot_numbers slots) ≡ true → k < length slots → x ≡ get_or slots k x → AreSlotsIndexed slots old
    → ((i : ℕ) → kept_for new i ≡ kept_without x.number k old i)
    → AreSlotsIndexed (remove slots k) new
indexed-less slots k x old new d l is indexed forgotten = record {
  finds = λ i. forgotten i
      ∙ ap (λ (o : Option ℕ). if x.number == i then None else option_map (place_without k) o) (indexed.finds i)
      ∙ sym (index-removed (slot_numbers slots) x.number k i d (stands-at slots k x d l is))
      ∙ ap (λ ns. index_in ns i) (sym (map-remove number_at slots k));
}

-- an event of a node leaves the numbers
numbers-acted : (c : Charge) (h k : ℕ) (e : NodeEvent) (old new : List FiledSlot)
    → IsChangedAt (IsSlotActed c h e) k old new → slot_numbers new ≡ slot_numbers old
numbers-acted c h k e [] new r = absurd r
numbers-acted c h k e (x ∷ xs) [] r = absurd r
numbers-acted c h zero e (x ∷ xs) (y ∷ ys) r = ap₂ (λ (n : ℕ) (ns : List ℕ). n ∷ ns) r.0.number (sym (ap slot_numbers r.1))
numbers-acted c h (suc k) e (x ∷ xs) (y ∷ ys) r = ap₂ (λ (n : ℕ) (ns : List ℕ). n ∷ ns) (sym (ap number_at r.0)) (numbers-acted c h k e xs ys r.1)

pub indexed-acted : {A E : Type 0} (result : Result A E) (c : Charge) (h k : ℕ) (e : NodeEvent) (old new : List FiledSlot) (index : List SlotPlace)
    → OnOk result (IsChangedAt (IsSlotActed c h e) k old new) → OnErr result (new ≡ old)
    → AreSlotsIndexed old index → AreSlotsIndexed new index
indexed-acted (Ok a) c h k e old new index done err indexed = record { finds = λ i. indexed.finds i ∙ ap (λ ns. index_in ns i) (sym (numbers-acted c h k e old new done)) }
indexed-acted (Err a) c h k e old new index done err indexed = subst (λ (ss : List FiledSlot). AreSlotsIndexed ss index) (sym err) indexed
