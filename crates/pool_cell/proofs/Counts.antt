-- There are as many entries as receipts.
use Rattle.std.proofs.Common.{◌≡◌, ◌≢◌, ◌⊎◌, ℕ, zero, suc, ◌+◌, ◌<◌, ◌≤◌, Bool, true, false, if◌then◌else◌, ◌==◌, List, [], ◌∷◌, ◌++◌, length, map, Some, refl, sym, ap, ◌∙◌, inl, inr, ⊎_elim, arith, length-append, slice_get, eq-eqb, ne_eqb}
use Rattle.std.proofs.lemmas.List.{length-map}
use Rattle.std.proofs.lemmas.List.Elements.{All-head, All-tail}
use Rattle.scp_spec.specs.Hosts.{Config, Entry}
use Rattle.pool_cell.specs.Receipts.{Extract, extract, extract_of, extracts_from, extracts_of}
use Rattle.pool_cell.specs.Rule.{AllBelow}
use Rattle.pool_cell.specs.Sights.{SeatSight}
use Rattle.pool_cell.specs.Closing.{AllSeats, HasNumber, receipts_in}

-- ---- each owner below n counts once
-- f of each number below n, added up
abbrev below : (ℕ → ℕ) → ℕ → ℕ
below f zero = 0
below f (suc n) = f n + below f n

abbrev hit : ℕ → ℕ → ℕ
hit o k = if o == k then 1 else 0

-- how many of these are k
abbrev count : List ℕ → ℕ → ℕ
count [] k = 0
count (o ∷ os) k = hit o k + count os k

below_plus : (f h : ℕ → ℕ) (n : ℕ) → below (λ k. f k + h k) n ≡ below f n + below h n
below_plus f h zero = refl
below_plus f h (suc n) = let b = below_plus f h n in omega arith

below_none : (n : ℕ) → below (λ _. 0) n ≡ 0
below_none zero = refl
below_none (suc n) = let r = below_none n in omega arith

missed : (o n : ℕ) → n ≤ o → below (hit o) n ≡ 0
missed o zero le = refl
missed o (suc n) le =
    let none : hit o n ≡ 0 = ap (λ (b : Bool). if b then 1 else 0) (ne_eqb o n (λ (e : o ≡ n). absurd (omega arith))) in
    let rest = missed o n (omega arith) in
    omega arith

is_or_less : (o n : ℕ) → o < suc n → (o ≡ n) ⊎ (o < n)
is_or_less zero zero lt = inl refl
is_or_less zero (suc n) lt = inr (omega arith)
is_or_less (suc o) zero lt = absurd (omega arith)
is_or_less (suc o) (suc n) lt = ⊎_elim (λ (e : o ≡ n). inl (ap suc e)) (λ (l : o < n). inr (omega arith)) (is_or_less o n (omega arith))

once : (o n : ℕ) → o < n → below (hit o) n ≡ 1
once o zero lt = absurd (omega arith)
once o (suc n) lt =
    ⊎_elim
    (λ (e : o ≡ n).
    let here : hit o n ≡ 1 = ap (λ (b : Bool). if b then 1 else 0) (eq-eqb o n e) in
    let rest = missed o n (omega arith) in
    omega arith)
    (λ (l : o < n).
    let here : hit o n ≡ 0 = ap (λ (b : Bool). if b then 1 else 0) (ne_eqb o n (λ (e : o ≡ n). absurd (omega arith))) in
    let rest = once o n l in
    omega arith)
    (is_or_less o n lt)

each_once : (n : ℕ) (os : List ℕ) → AllBelow n os → below (count os) n ≡ length os
each_once n [] all = below_none n
each_once n (o ∷ os) all =
    let a = below_plus (hit o) (count os) n in
    let b = once o n (All-head (λ k. k < n) o os all) in
    let c = each_once n os (All-tail (λ k. k < n) o os all) in
    omega arith

counts : (config : Config) (before : List Entry) (k : ℕ) (os : List ℕ) (es : List Entry) → length os ≡ length es → length (extracts_from config before k os es) ≡ count os k
counts config before k [] es len = refl
counts config before k (o ∷ os) [] len = absurd (omega arith)
counts config before k (o ∷ os) (e ∷ es) len =
    let head : List Extract = if o == k then extract config before e ∷ [] else [] in
    let rest = counts config (before ++ e ∷ []) k os es (omega arith) in
    let here : length head ≡ hit o k = elim (o == k) as (λ (b : Bool). length {A = Extract} (if b then extract config before e ∷ [] else []) ≡ (if b then 1 else 0)) [ true ↦ refl | false ↦ refl ] in
    omega (arith, length-append head (extracts_from config (before ++ e ∷ []) k os es))

-- ---- numbers that are all those below n, and no more than n
abbrev In : ℕ → List ℕ → Type 0
In k [] = ⊥
In k (x ∷ xs) = (x ≡ k) ⊎ In k xs

-- the list without it
abbrev without : (k : ℕ) (xs : List ℕ) → In k xs → List ℕ
without k [] h = absurd h
without k (x ∷ xs) (inl e) = xs
without k (x ∷ xs) (inr h) = x ∷ without k xs h

abbrev sum_of : (ℕ → ℕ) → List ℕ → ℕ
sum_of f [] = 0
sum_of f (x ∷ xs) = f x + sum_of f xs

sum_without : (f : ℕ → ℕ) (k : ℕ) (xs : List ℕ) (h : In k xs) → sum_of f xs ≡ f k + sum_of f (without k xs h)
sum_without f k [] h = absurd h
sum_without f k (x ∷ xs) (inl e) = ap (λ (n : ℕ). f n + sum_of f xs) e
sum_without f k (x ∷ xs) (inr h) = let r = sum_without f k xs h in omega arith

length_without : (k : ℕ) (xs : List ℕ) (h : In k xs) → length xs ≡ suc (length (without k xs h))
length_without k [] h = absurd h
length_without k (x ∷ xs) (inl e) = refl
length_without k (x ∷ xs) (inr h) = ap suc (length_without k xs h)

stays : (j k : ℕ) (xs : List ℕ) (h : In k xs) → In j xs → j ≢ k → In j (without k xs h)
stays j k [] h i apart = absurd h
stays j k (x ∷ xs) (inl e) (inl d) apart = absurd (apart (sym d ∙ e))
stays j k (x ∷ xs) (inl e) (inr i) apart = i
stays j k (x ∷ xs) (inr h) (inl d) apart = inl d
stays j k (x ∷ xs) (inr h) (inr i) apart = inr (stays j k xs h i apart)

all_of_them : (f : ℕ → ℕ) (n : ℕ) (xs : List ℕ) → length xs ≤ n → ((k : ℕ) → k < n → In k xs) → sum_of f xs ≡ below f n
all_of_them f zero [] le here = refl
all_of_them f zero (x ∷ xs) le here = absurd (omega arith)
all_of_them f (suc n) xs le here =
    let h = here n (omega arith) in
    let a = sum_without f n xs h in
    let b = length_without n xs h in
    let c = all_of_them f n (without n xs h) (omega arith) (λ k lt. stays k n xs h (here k (omega arith)) (λ (e : k ≡ n). absurd (omega arith))) in
    omega arith

-- ---- seats
number_in : (seats : List SeatSight) (k i : ℕ) (s : SeatSight) → slice_get seats i ≡ Some s → s.me.number ≡ k → In k (map (λ t. t.me.number) seats)
number_in [] k i s e is = absurd (cc)
number_in (x ∷ xs) k zero s e is = let same : x ≡ s = cc in inl (ap (λ (t : SeatSight). t.me.number) same ∙ is)
number_in (x ∷ xs) k (suc i) s e is = inr (number_in xs k i s e is)

receipts_by : (config : Config) (owners : List ℕ) (entries : List Entry) (seats : List SeatSight) → length owners ≡ length entries
    → AllSeats (λ s. map extract_of s.me.receipts ≡ extracts_of config s.me.number owners entries) seats → receipts_in seats ≡ sum_of (count owners) (map (λ t. t.me.number) seats)
receipts_by config owners entries [] len all = refl
receipts_by config owners entries (s ∷ ss) len all =
    let one : length s.me.receipts ≡ count owners s.me.number = sym (length-map s.me.receipts extract_of) ∙ ap length (all 0 s (omega arith)) ∙ counts config [] s.me.number owners entries len in
    let rest = receipts_by config owners entries ss len (λ k d lt. all (suc k) d (omega arith)) in
    omega arith

pub as_many : (config : Config) (n : ℕ) (owners : List ℕ) (entries : List Entry) (seats : List SeatSight) → length owners ≡ length entries → AllBelow n owners
    → ((k : ℕ) → k < n → HasNumber seats k) → AllSeats (λ s. map extract_of s.me.receipts ≡ extracts_of config s.me.number owners entries) seats
    → length seats ≤ n → length entries ≡ receipts_in seats
as_many config n owners entries seats len owned present receipts few =
    let numbers : List ℕ = map (λ t. t.me.number) seats in
    let a = receipts_by config owners entries seats len receipts in
    let b = all_of_them (count owners) n numbers (omega (arith, length-map seats (λ (t : SeatSight). t.me.number))) (λ k lt. let p = present k lt in number_in seats k p.0 p.1 p.2 p.3) in
    let c = each_once n owners owned in
    omega arith
