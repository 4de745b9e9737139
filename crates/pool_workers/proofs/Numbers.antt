-- Numbers that rise.
use Rattle.std.proofs.Common.{◌≡◌, ◌<◌, ◌≤◌, ℕ, zero, suc, List, [], ◌∷◌, length, map, get_or, arith, subst, sym, ◌∙◌, ⊎_elim, Result, Ok, Err}
use Rattle.std.proofs.lemmas.Bool.{cases_lt}
use Rattle.std.proofs.lemmas.List.{get_or-map, length-map}
use Rattle.std.specs.Ordering.{nat_cmp}
use Rattle.std.specs.List.Sorted.{IsBinarySearchResult}
use Rattle.std.proofs.lemmas.List.Sorted.{searched}
use Rattle.pool_cell.specs.Sights.{CellSight}
use Rattle.pool_workers.specs.Numbers.{IsRising, IsNumbered, IsNumberAt, Lacks, cell_number}

rising_at : (xs : List ℕ) → IsRising xs → (i j : ℕ) → i ≤ j → j < length xs → get_or xs i 0 ≤ get_or xs j 0
rising_at [] up i j le lt = absurd (omega arith)
rising_at (x ∷ xs) up zero zero le lt = omega arith
rising_at (x ∷ xs) up zero (suc j) le lt = let a = up.0 j 0 (omega arith) in omega arith
rising_at (x ∷ xs) up (suc i) zero le lt = absurd (omega arith)
rising_at (x ∷ xs) up (suc i) (suc j) le lt = rising_at xs up.1 i j (omega arith) (omega arith)

number_there : (cs : List CellSight) (k x : ℕ) → k < length (map cell_number cs) → get_or (map cell_number cs) k 0 ≡ x → (k < length cs) × IsNumberAt cs k x
number_there [] k x lt is = absurd (omega arith)
number_there (c ∷ cs) zero x lt is = (omega arith, λ d. is)
number_there (c ∷ cs) (suc k) x lt is = let r = number_there cs k x (omega arith) is in (omega arith, r.1)

pub found : (ns : List ℕ) (cs : List CellSight) (x k : ℕ) → IsNumbered ns cs → IsBinarySearchResult (λ y. nat_cmp y x) ns (Ok k) → (k < length cs) × IsNumberAt cs k x
found ns cs x k numbered result =
    let s = searched ns x (Ok k) result (rising_at ns numbered.1) in
    let t = subst (λ (l : List ℕ). (k < length l) × (get_or l k 0 ≡ x)) numbered.0 s in
    number_there cs k x t.0 t.1

lacks_by : (cs : List CellSight) (x i : ℕ) → ((k : ℕ) → k < i → get_or (map cell_number cs) k 0 < x) → ((k : ℕ) → i ≤ k → k < length (map cell_number cs) → x < get_or (map cell_number cs) k 0) → Lacks cs x
lacks_by cs x i low high k d lt e =
    let here : get_or (map cell_number cs) k 0 ≡ x = get_or-map cell_number cs k d 0 lt ∙ sym e in
    let within = length-map cs cell_number in
    ⊎_elim (λ (less : k < i). let m = low k less in omega arith) (λ (le : i ≤ k). let m = high k le (omega arith) in omega arith) (cases_lt k i)

-- where a number would stand
abbrev pub IsPlace : List ℕ → ℕ → ℕ → Type 0
IsPlace ns x i = (i ≤ length ns) × ((k : ℕ) → k < i → get_or ns k 0 < x) × ((k : ℕ) → i ≤ k → k < length ns → x < get_or ns k 0)

pub is_insertion_place : (ns : List ℕ) (x i : ℕ) → IsRising ns → IsBinarySearchResult (λ y. nat_cmp y x) ns (Err i) → IsPlace ns x i
is_insertion_place ns x i up result = searched ns x (Err i) result (rising_at ns up)

-- the same of a search for this number among these numbers, as the code names both
pub found_place : (ns seen : List ℕ) (x y i : ℕ) (r : Result ℕ ℕ) → IsRising ns → seen ≡ ns → y ≡ x → r ≡ Err i
    → IsBinarySearchResult (λ k. nat_cmp k y) seen r → IsPlace ns x i
found_place ns seen x y i r up same named is result =
    subst (λ k. IsPlace ns k i) named
    (is_insertion_place ns y i up (subst (λ (s : List ℕ × Result ℕ ℕ). IsBinarySearchResult (λ k. nat_cmp k y) s.0 s.1) (λ j. (same j, is j)) result))

-- the same where it was found
pub found_there : (ns seen : List ℕ) (cs : List CellSight) (x y k : ℕ) (r : Result ℕ ℕ) → IsNumbered ns cs → seen ≡ ns → y ≡ x → r ≡ Ok k
    → IsBinarySearchResult (λ j. nat_cmp j y) seen r → (k < length cs) × IsNumberAt cs k x
found_there ns seen cs x y k r numbered same named is result =
    subst (λ n. (k < length cs) × IsNumberAt cs k n) named
    (found ns cs y k numbered (subst (λ (s : List ℕ × Result ℕ ℕ). IsBinarySearchResult (λ j. nat_cmp j y) s.0 s.1) (λ j. (same j, is j)) result))

pub lacks_at : (ns : List ℕ) (cs : List CellSight) (x i : ℕ) → IsNumbered ns cs → IsPlace ns x i → Lacks cs x
lacks_at ns cs x i numbered p = let q = subst (λ (l : List ℕ). IsPlace l x i) numbered.0 p in lacks_by cs x i q.1 q.2

pub absent : (ns : List ℕ) (cs : List CellSight) (x i : ℕ) → IsNumbered ns cs → IsBinarySearchResult (λ y. nat_cmp y x) ns (Err i) → Lacks cs x
absent ns cs x i numbered result = lacks_at ns cs x i numbered (is_insertion_place ns x i numbered.1 result)
