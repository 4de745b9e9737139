-- Lists of numbers by place: one more number, and a turn that takes a list.
use Rattle.std.proofs.Common.{◌≡◌, ◌⊎◌, ℕ, zero, suc, ◌<◌, ◌≤◌, List, [], ◌∷◌, ◌++◌, length, map, get_or, slice_get, Some, None, IsTrue, refl, set, sym, ◌∙◌, ap, inl, inr, arith}
use Rattle.std.proofs.lemmas.List.{length-map}
use Rattle.std.proofs.lemmas.Option.{slice_get_past}
use Rattle.std.proofs.lemmas.Bool.{or_left, or_right}
use Rattle.scp_spec.specs.Sets.{among}
use Rattle.scp_spec.proofs.Sets.Finite.{among_head}
use Rattle.host_closure.specs.Turns.{AreMore, ready_at, lists_after_turn, with_ready}
use Rattle.host_closure.proofs.NameLookups.{among_append}

-- ---- one more number
put_length : (ready : List (List ℕ)) (place n : ℕ) → length (with_ready ready place n) ≡ length ready
put_length [] place n = refl
put_length (x ∷ xs) zero n = refl
put_length (x ∷ xs) (suc place) n = ap suc (put_length xs place n)

put_kept : (ready : List (List ℕ)) (place n j m : ℕ) → IsTrue (among (ready_at ready j) m) → IsTrue (among (ready_at (with_ready ready place n) j) m)
put_kept [] place n j m h = h
put_kept (x ∷ xs) zero n zero m h = among_append x (n ∷ []) m ∙ or_left (among x m) (among (n ∷ []) m) h
put_kept (x ∷ xs) zero n (suc j) m h = h
put_kept (x ∷ xs) (suc place) n zero m h = h
put_kept (x ∷ xs) (suc place) n (suc j) m h = put_kept xs place n j m h

pub put_more : (ready : List (List ℕ)) (place n : ℕ) → AreMore ready (with_ready ready place n)
put_more ready place n = record { counted = put_length ready place n; kept = put_kept ready place n }

pub put_there : (ready : List (List ℕ)) (place n : ℕ) → place < length ready → IsTrue (among (ready_at (with_ready ready place n) place) n)
put_there [] place n l = absurd (omega arith)
put_there (x ∷ xs) zero n l = among_append x (n ∷ []) n ∙ or_right (among x n) (among (n ∷ []) n) (among_head n [])
put_there (x ∷ xs) (suc place) n l = put_there xs place n (omega arith)

pub put_outside : (ready : List (List ℕ)) (place n : ℕ) → length ready ≤ place → with_ready ready place n ≡ ready
put_outside [] place n l = refl
put_outside (x ∷ xs) zero n l = absurd (omega arith)
put_outside (x ∷ xs) (suc place) n l = ap (λ (ys : List (List ℕ)). x ∷ ys) (put_outside xs place n (omega arith))

pub more_same : (ready : List (List ℕ)) → AreMore ready ready
more_same ready = record { counted = refl; kept = λ j n h. h }

pub more_more : (one two three : List (List ℕ)) → AreMore one two → AreMore two three → AreMore one three
more_more one two three a b = record { counted = b.counted ∙ a.counted; kept = λ j n h. b.kept j n (a.kept j n h) }

-- ---- a turn
pub turned_within : (ready : List (List ℕ)) (place : ℕ) → place ≤ length ready → place < length (lists_after_turn ready place)
turned_within [] place l = omega arith
turned_within (x ∷ xs) zero l = omega arith
turned_within (x ∷ xs) (suc place) l = let r = turned_within xs place (omega arith) in omega arith

pub turned_bound : (ready : List (List ℕ)) (place n : ℕ) → length ready ≤ n → place ≤ length ready → place < n → length (lists_after_turn ready place) ≤ n
turned_bound [] place n l k m = omega arith
turned_bound (x ∷ xs) zero n l k m = l
turned_bound (x ∷ xs) (suc place) zero l k m = absurd (omega arith)
turned_bound (x ∷ xs) (suc place) (suc n) l k m = let r = turned_bound xs place n (omega arith) (omega arith) (omega arith) in omega arith

-- another list that is there was there before
pub turned_others : (ready : List (List ℕ)) (place j : ℕ) → place ≤ length ready → j < length (lists_after_turn ready place) → (j ≡ place) ⊎ ((j < length ready) × (ready_at (lists_after_turn ready place) j ≡ ready_at ready j))
turned_others [] place j k l = inl (omega arith)
turned_others (x ∷ xs) zero zero k l = inl refl
turned_others (x ∷ xs) zero (suc j) k l = inr (l, refl)
turned_others (x ∷ xs) (suc place) zero k l = inr (omega arith, refl)
turned_others (x ∷ xs) (suc place) (suc j) k l = elim (turned_others xs place j (omega arith) (omega arith)) [
  | inl e ↦ inl (ap suc e)
  | inr r ↦ inr (let m = r.0 in omega arith, r.1)
]

pub read_at : (ready : List (List ℕ)) (place : ℕ) (numbers : List ℕ) → Some numbers ≡ slice_get ready place → (place < length ready) × (ready_at ready place ≡ numbers)
read_at [] place numbers e = cc
read_at (x ∷ xs) zero numbers e = let same : x ≡ numbers = cc in (omega arith, same)
read_at (x ∷ xs) (suc place) numbers e = let r = read_at xs place numbers e in (let l = r.0 in omega arith, r.1)

-- ---- the same lists as they lie in memory
module _ {X : Type 0} (f : X → List ℕ) where
  pub put_raw : (xs : List X) (ready : List (List ℕ)) (place n : ℕ) (x y : X) → map f xs ≡ ready → place < length xs → x ≡ get_or xs place x → f y ≡ f x ++ n ∷ [] → map f (set xs place y) ≡ with_ready ready place n
  put_raw xs ready place n x y view l at e = go xs place l (e ∙ ap (λ (z : X). f z ++ n ∷ []) at) ∙ ap (λ (r : List (List ℕ)). with_ready r place n) view
    where
      go : (zs : List X) (p : ℕ) → p < length zs → f y ≡ f (get_or zs p x) ++ n ∷ [] → map f (set zs p y) ≡ with_ready (map f zs) p n
      go [] p k q = absurd (omega arith)
      go (z ∷ zs) zero k q = ap (λ (w : List ℕ). w ∷ map f zs) q
      go (z ∷ zs) (suc p) k q = ap (λ (ws : List (List ℕ)). f z ∷ ws) (go zs p (omega arith) q)

  pub put_past : (xs : List X) (ready : List (List ℕ)) (place n : ℕ) → map f xs ≡ ready → length xs ≤ place → ready ≡ with_ready ready place n
  put_past xs ready place n view l = sym (put_outside ready place n (omega (arith, l, ap length view, length-map xs f)))

  pub turned_raw : (xs : List X) (ready : List (List ℕ)) (place : ℕ) (y : X) → map f xs ≡ ready → place < length xs → f y ≡ [] → map f (set xs place y) ≡ lists_after_turn ready place
  turned_raw xs ready place y view l e = go xs place l ∙ ap (λ (r : List (List ℕ)). lists_after_turn r place) view
    where
      go : (zs : List X) (p : ℕ) → p < length zs → map f (set zs p y) ≡ lists_after_turn (map f zs) p
      go [] p k = absurd (omega arith)
      go (z ∷ zs) zero k = ap (λ (w : List ℕ). w ∷ map f zs) e
      go (z ∷ zs) (suc p) k = ap (λ (ws : List (List ℕ)). f z ∷ ws) (go zs p (omega arith))

  pub turned_first : (xs : List X) (ready : List (List ℕ)) (place : ℕ) (y : X) → map f xs ≡ ready → length xs ≤ place → f y ≡ [] → map f (xs ++ y ∷ []) ≡ lists_after_turn ready place
  turned_first xs ready place y view l e = go xs place l ∙ ap (λ (r : List (List ℕ)). lists_after_turn r place) view
    where
      go : (zs : List X) (p : ℕ) → length zs ≤ p → map f (zs ++ y ∷ []) ≡ lists_after_turn (map f zs) p
      go [] p k = ap (λ (w : List ℕ). w ∷ []) e
      go (z ∷ zs) zero k = absurd (omega arith)
      go (z ∷ zs) (suc p) k = ap (λ (ws : List (List ℕ)). f z ∷ ws) (go zs p (omega arith))

  pub none_past : (xs : List X) (ready : List (List ℕ)) (place : ℕ) → map f xs ≡ ready → length xs ≤ place → None ≡ slice_get ready place
  none_past xs ready place view l = sym (slice_get_past ready place (omega (arith, l, ap length view, length-map xs f)))
