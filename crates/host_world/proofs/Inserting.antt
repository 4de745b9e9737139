-- One number more in an ascending list, at the place that a search for it answers.
use Rattle.std.proofs.Common.{◌≡◌, ℕ, ◌+◌, ◌<◌, ◌≤◌, ◌-◌, List, length, get_or, Err, sym, subst, inl, inr, arith}
use Rattle.std.specs.List.{insert}
use Rattle.std.specs.List.Sorted.{IsBinarySearchResult}
use Rattle.std.specs.Ordering.{nat_cmp}
use Rattle.std.proofs.lemmas.Bool.{cases_lt}
use Rattle.std.proofs.lemmas.List.Edits.{length-insert, get_or-insert_below, get_or-insert_at, get_or-insert_above}
use Rattle.std.proofs.lemmas.List.{get_or_default}
use Rattle.std.proofs.lemmas.List.Sorted.{searched}
use Rattle.scp_spec.specs.Sets.{IsAscending}

-- a place in an ascending list with smaller numbers before it and greater ones from it on
pub record IsPlace (xs : List ℕ) (x i : ℕ) : Type 0 where
  pub inside : i ≤ length xs
  pub below : (k : ℕ) → k < i → get_or xs k 0 < x
  pub above : (k : ℕ) → i ≤ k → k < length xs → x < get_or xs k 0

module _ (xs : List ℕ) (x i : ℕ) (up : IsAscending xs) (p : IsPlace xs x i) where
  before_place : (d k : ℕ) → k < i → get_or (insert xs i x) k d ≡ get_or xs k d
  before_place d k h = get_or-insert_below xs i x d k h p.inside

  at_place : (d k : ℕ) → k ≡ i → get_or (insert xs i x) k d ≡ x
  at_place d k e = subst (λ n. get_or (insert xs i x) n d ≡ x) (sym e) (get_or-insert_at xs i x d p.inside)

  after_place : (d k j : ℕ) → j + 1 ≡ k → i ≤ j → get_or (insert xs i x) k d ≡ get_or xs j d
  after_place d k j e h = subst (λ n. get_or (insert xs i x) n d ≡ get_or xs j d) e (get_or-insert_above xs i x d j h p.inside)

  is_below : (d k : ℕ) → k < i → get_or xs k d < x
  is_below d k h = rw (get_or_default xs k d 0 (let q = p.inside in omega arith)) (p.below k h)

  is_above : (d k : ℕ) → i ≤ k → k < length xs → x < get_or xs k d
  is_above d k h l = rw (get_or_default xs k d 0 l) (p.above k h l)

  above_place : (d m j : ℕ) → m < j + 1 → i ≤ j → j < length xs → get_or (insert xs i x) m d < get_or xs j d
  above_place d m j l h k = elim (cases_lt m i) [
    | inl a ↦ rw (before_place d m a) (up m j d (omega arith) k)
    | inr b ↦ elim (cases_lt i m) [
      | inl c ↦ rw (after_place d m (m - 1) (omega arith) (omega arith)) (up (m - 1) j d (omega arith) k)
      | inr c ↦ rw (at_place d m (omega arith)) (is_above d j h k)
    ]
  ]

  pub ascending_insert : IsAscending (insert xs i x)
  ascending_insert m n d l h = elim (cases_lt n i) [
    | inl a ↦ rw (before_place d m (omega arith), before_place d n a) (up m n d l (let q = p.inside in omega arith))
    | inr b ↦ elim (cases_lt i n) [
      | inl c ↦ rw (after_place d n (n - 1) (omega arith) (omega arith))
          (above_place d m (n - 1) (omega arith) (omega arith) (let q = length-insert xs i x p.inside in omega arith))
      | inr c ↦ rw (before_place d m (omega arith), at_place d n (omega arith)) (is_below d m (omega arith))
    ]
  ]

rises : (xs : List ℕ) → IsAscending xs → (i j : ℕ) → i ≤ j → j < length xs → get_or xs i 0 ≤ get_or xs j 0
rises xs up i j h k = elim (cases_lt i j) [
  | inl l ↦ omega (arith, up i j 0 l k)
  | inr m ↦ let e : i ≡ j = omega arith in rw e (omega arith)
]

-- where a binary search finds nothing, it answers such a place
pub is_place : (xs : List ℕ) (x i : ℕ) → IsAscending xs → IsBinarySearchResult (λ y. nat_cmp y x) xs (Err i) → IsPlace xs x i
is_place xs x i up h = let s = searched xs x (Err i) h (rises xs up) in record { inside = s.0; below = s.1; above = s.2 }
