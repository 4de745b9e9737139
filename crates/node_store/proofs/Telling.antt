-- Slices that are told by numbers, with one envelope more, and with one let go.
use Rattle.std.proofs.Common.{◌≡◌, ◌≢◌, ◌⊎◌, inl, inr, ℕ, zero, suc, ◌≤◌, Bool, IsTrue, List, [], ◌∷◌, ◌++◌, get_or, map, set, Option, Some, None, option_map, refl, sym, ◌∙◌, ap, subst, arith}
use Rattle.std.specs.List.{slice_get}
use Rattle.std.proofs.lemmas.Bool.{cases_eq}
use Rattle.scp_types.specs.Statements.{Sent}
use Rattle.scp_types.specs.Trees.{Slices}
use Rattle.node_store.specs.Archives.{Archived, IsNumberFor, IsSameNumber, TellSlices, filed_slices_at, slices_if_any}
use Rattle.node_store.proofs.Growing.{IsGrown, filed-there}

pub told-kept : {P : Type 0} (f : P → Sent) (old new : List (Option P)) (numbers : List ℕ) (last : ℕ) → new ≡ old → TellSlices (map (option_map f) old) numbers last → TellSlices (map (option_map f) new) numbers last
told-kept {P} f old new numbers last same told = subst (λ (xs : List (Option P)). TellSlices (map (option_map f) xs) numbers last) (sym same) told

-- what lies at a number after one was let go lay there before
still-there : {P : Type 0} (f : P → Sent) (places : List (Option P)) (n k : ℕ) (s : Slices) → filed_slices_at (map (option_map f) (set places n None)) k ≡ Some s → filed_slices_at (map (option_map f) places) k ≡ Some s
still-there f [] n k s h = h
still-there f (z ∷ xs) zero zero s h = absurd (cc)
still-there f (z ∷ xs) zero (suc k) s h = h
still-there f (z ∷ xs) (suc n) zero s h = h
still-there f (z ∷ xs) (suc n) (suc k) s h = still-there f xs n k s h

pub told-freed : {P : Type 0} (f : P → Sent) (places : List (Option P)) (n : ℕ) (numbers : List ℕ) (last : ℕ) → TellSlices (map (option_map f) places) numbers last → TellSlices (map (option_map f) (set places n None)) numbers last
told-freed f places n numbers last told = record {
  same = λ i j s t h p q. told.same i j s t h (still-there f places n i s p) (still-there f places n j t q);
  within = told.within;
}

-- what lies elsewhere lay there before
elsewhere : {P : Type 0} (f : P → Sent) (places : List (Option P)) (n : ℕ) (p : P) (k : ℕ) (s : Slices) → k ≢ n → filed_slices_at (map (option_map f) (set places n (Some p))) k ≡ Some s → filed_slices_at (map (option_map f) places) k ≡ Some s
elsewhere f [] n p k s d h = h
elsewhere f (z ∷ xs) zero p zero s d h = absurd (d refl)
elsewhere f (z ∷ xs) zero p (suc k) s d h = h
elsewhere f (z ∷ xs) (suc n) p zero s d h = h
elsewhere f (z ∷ xs) (suc n) p (suc k) s d h = elsewhere f xs n p k s (λ q. d (ap suc q)) h

ungrown : {P : Type 0} (f : P → Sent) (old : List (Option P)) (k : ℕ) (s : Slices) → filed_slices_at (map (option_map f) (old ++ None ∷ [])) k ≡ Some s → filed_slices_at (map (option_map f) old) k ≡ Some s
ungrown f [] zero s h = absurd (cc)
ungrown f [] (suc k) s h = h
ungrown f (z ∷ xs) zero s h = h
ungrown f (z ∷ xs) (suc k) s h = ungrown f xs k s h

before : {P : Type 0} (f : P → Sent) (old places : List (Option P)) (n : ℕ) (p : P) (k : ℕ) (s : Slices) → IsGrown old places → k ≢ n → filed_slices_at (map (option_map f) (set places n (Some p))) k ≡ Some s → filed_slices_at (map (option_map f) old) k ≡ Some s
before {P} f old places n p k s (inl same) d h = subst (λ (xs : List (Option P)). filed_slices_at (map (option_map f) xs) k ≡ Some s) same (elsewhere f places n p k s d h)
before {P} f old places n p k s (inr more) d h = ungrown f old k s (subst (λ (xs : List (Option P)). filed_slices_at (map (option_map f) xs) k ≡ Some s) more (elsewhere f places n p k s d h))

-- whatever has the number that is given has these slices
number-tells : (old : Archived) (numbers : List ℕ) (last latest : ℕ) (is_same : Bool) (m k : ℕ) (x t : Slices) → TellSlices old numbers last → (IsTrue is_same → filed_slices_at old latest ≡ Some x)
    → IsNumberFor numbers last latest is_same m → m ≢ 0 → m ≡ get_or numbers k 0 → filed_slices_at old k ≡ Some t → x ≡ t
number-tells old numbers last latest is_same m k x t told is (inl none) d e q = absurd (d none)
number-tells old numbers last latest is_same m k x t told is (inr (inl new)) d e q = absurd (omega (arith, new, e, told.within k))
number-tells old numbers last latest is_same m k x t told is (inr (inr known)) d e q =
    told.same latest k x t (record { told = λ z. d (known.1 ∙ z); same = sym known.1 ∙ e }) (is known.0) q

pub told-put : {P : Type 0} (f : P → Sent) (old places : List (Option P)) (n : ℕ) (p : P) (numbers new : List ℕ) (last greatest latest : ℕ) (is_same : Bool) → IsGrown old places → slice_get places n ≡ Some None
    → TellSlices (map (option_map f) old) numbers last → (IsTrue is_same → filed_slices_at (map (option_map f) old) latest ≡ Some (f p).slices)
    → ((k : ℕ) → k ≢ n → get_or new k 0 ≡ get_or numbers k 0) → IsNumberFor numbers last latest is_same (get_or new n 0) → get_or new n 0 ≤ greatest → last ≤ greatest
    → TellSlices (map (option_map f) (set places n (Some p))) new greatest
told-put {P} f old places n p numbers new last greatest latest is_same grown free told is others number within more = record {
  same = λ i j s t h a b. go i j s t h a b (cases_eq i n) (cases_eq j n);
  within = λ i. at i (cases_eq i n);
}
  where
    now : Archived
    now = map (option_map f) (set places n (Some p))

    here : (k : ℕ) (s : Slices) → k ≡ n → filed_slices_at now k ≡ Some s → (f p).slices ≡ s
    here k s e h = let there : filed_slices_at now n ≡ Some (f p).slices = ap slices_if_any (filed-there f places n p free) in cc

    go : (i j : ℕ) (s t : Slices) → IsSameNumber new i j → filed_slices_at now i ≡ Some s → filed_slices_at now j ≡ Some t → (i ≡ n) ⊎ (i ≢ n) → (j ≡ n) ⊎ (j ≢ n) → s ≡ t
    go i j s t h a b (inl e) (inl o) = sym (here i s e a) ∙ here j t o b
    go i j s t h a b (inl e) (inr o) =
        sym (here i s e a) ∙ number-tells (map (option_map f) old) numbers last latest is_same (get_or new n 0) j (f p).slices t told is number
        (λ z. h.told (ap (λ k. get_or new k 0) e ∙ z)) (sym (ap (λ k. get_or new k 0) e) ∙ h.same ∙ others j o) (before f old places n p j t grown o b)
    go i j s t h a b (inr e) (inl o) =
        sym (number-tells (map (option_map f) old) numbers last latest is_same (get_or new n 0) i (f p).slices s told is number
        (λ z. h.told (h.same ∙ ap (λ k. get_or new k 0) o ∙ z)) (sym (ap (λ k. get_or new k 0) o) ∙ sym h.same ∙ others i e) (before f old places n p i s grown e a)) ∙ here j t o b
    go i j s t h a b (inr e) (inr o) =
        told.same i j s t (record { told = λ z. h.told (others i e ∙ z); same = sym (others i e) ∙ h.same ∙ others j o })
        (before f old places n p i s grown e a) (before f old places n p j t grown o b)

    at : (i : ℕ) → (i ≡ n) ⊎ (i ≢ n) → get_or new i 0 ≤ greatest
    at i (inl e) = subst (λ k. get_or new k 0 ≤ greatest) (sym e) within
    at i (inr o) = omega (arith, others i o, told.within i, more)
