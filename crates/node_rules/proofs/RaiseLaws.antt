-- The raise: the lowest counter at which greater counters do not block, found over the counters that appear.
use Rattle.std.proofs.Common.{◌≡◌, ℕ, ◌+◌, ◌-◌, ◌<◌, ◌≤◌, min, Bool, true, false, not, nat_lt, nat_le, List, [], ◌∷◌, ◌++◌, Option, Some, None, if◌then◌else◌, filter_map, option_to_list, refl, sym, ◌∙◌, subst, inl, inr, ◌⊎◌, arith}
use Rattle.std.specs.List.{AllByRecursion}
use Rattle.std.proofs.lemmas.Bool.{true≢false, false≢true}
use Rattle.std.proofs.lemmas.Bool.Decides.{nat_tests}
use Rattle.scp_types.specs.declared.kind.Kind.{Kind}
use Rattle.scp_types.specs.declared.statement.Statement.{Statement}
use Rattle.scp_types.specs.declared.statement.Statement.TheVariants.{Nominate, Prepare, Commit, Externalize}
use Rattle.scp_spec.specs.Views.{Seen, passes}
use Rattle.scp_spec.specs.Passes.{has_counter}
use Rattle.scp_spec.specs.Candidates.{least_from}
use Rattle.scp_spec.specs.Extremes.{IsLeastFrom}
use Rattle.scp_spec.proofs.Ballots.LeastCounters.{least_from_is_exact}
use Rattle.scp_voting.specs.Searching.{counter_by, lesser, least_above, next_counter, IsHonest}

-- ---- the least number
-- there is one alone
least_is_alone : (test : ℕ → Bool) (fuel n a b : ℕ) → IsLeastFrom test fuel n a → IsLeastFrom test fuel n b → a ≡ b
least_is_alone test fuel n a b p q = elim (order a b) [
  | inl h ↦ absurd (true≢false (sym (p.passes (omega (arith, h, q.high))) ∙ q.first a p.low h))
  | inr r ↦ elim r [
    | inl h ↦ absurd (true≢false (sym (q.passes (omega (arith, h, p.high))) ∙ p.first b q.low h))
    | inr e ↦ e
  ]
]
  where
    order : (a b : ℕ) → (a < b) ⊎ ((b < a) ⊎ (a ≡ b))
    order a b = grind arith

-- ---- counters that appear
-- none above n is below m
abbrev NoneTo : ℕ → ℕ → Option ℕ → Type 0
NoneTo n m None = Unit {0}
NoneTo n m (Some k) = m ≤ k

-- between two neighbours the test is the same
same_count : (n k j : ℕ) → n ≤ k → (nat_lt n j ≡ true → k < j) → nat_le (n + 1) j ≡ nat_le (k + 1) j
same_count n k j a f = go (nat_lt n j) refl f
  where
    go : (b : Bool) → nat_lt n j ≡ b → (b ≡ true → k < j) → nat_le (n + 1) j ≡ nat_le (k + 1) j
    go true e f = let h : k < j = f refl in grind (arith, nat_tests)
    go false e f = grind (arith, nat_tests)

split : (n m j : ℕ) (o : Option ℕ) → NoneTo n m (if nat_lt n j then lesser j o else o) → (nat_lt n j ≡ true → m ≤ j) × NoneTo n m o
split n m j o h = go (nat_lt n j) refl o h
  where
    go : (b : Bool) → nat_lt n j ≡ b → (o : Option ℕ) → NoneTo n m (if b then lesser j o else o) → (b ≡ true → m ≤ j) × NoneTo n m o
    go true e None h = (λ q. h, tt)
    go true e (Some k) h = (λ q. omega arith, omega arith)
    go false e o h = (λ q. absurd (false≢true q), h)

-- who counts more than n counts more than k, where no counter lies between
pub counts_alike : (n m k : ℕ) (ss : List Statement) → n ≤ k → k < m → NoneTo n m (next_counter n ss) → AllByRecursion (λ s. has_counter (n + 1) s ≡ has_counter (k + 1) s) ss
unfolding least_above
counts_alike n m k [] a b h = tt
counts_alike n m k (Nominate v w ∷ ss) a b h = (refl, counts_alike n m k ss a b h)
counts_alike n m k (Prepare x p i j c ∷ ss) a b h = let r = split n m x.counter (next_counter n ss) h in
    (same_count n k x.counter a (λ e. let q = r.0 e in omega arith), counts_alike n m k ss a b r.1)
counts_alike n m k (Commit x p i c ∷ ss) a b h = let r = split n m x.counter (next_counter n ss) h in
    (same_count n k x.counter a (λ e. let q = r.0 e in omega arith), counts_alike n m k ss a b r.1)
counts_alike n m k (Externalize x i ∷ ss) a b h = (refl, counts_alike n m k ss a b h)

-- the next is above
next_above : (n : ℕ) (js : List ℕ) (m : ℕ) → least_above n js ≡ Some m → n < m
unfolding least_above
next_above n [] m e = cc
next_above n (j ∷ js) m e = go (nat_lt n j) refl (least_above n js) (λ k q. next_above n js k q) e
  where
    go : (b : Bool) → nat_lt n j ≡ b → (p : Option ℕ) → ((k : ℕ) → p ≡ Some k → n < k) → (if b then lesser j p else p) ≡ Some m → n < m
    go true x None f e = let q : j ≡ m = cc in grind (arith, nat_tests)
    go true x (Some k) f e = let q : min j k ≡ m = cc in let r = f k refl in grind (arith, nat_tests)
    go false x p f e = f m e

-- ---- who blocks
module _ (seen : Seen) (position : Option Statement) where
  -- those with greater counters block
  abbrev pub blocks : ℕ → Bool
  blocks k = seen.blocking Kind.Ballot (passes (has_counter (k + 1)) position) (has_counter (k + 1))

  -- the statements with whose counters the answer may change: the node's own and those in the rows
  abbrev pub heard : List Statement
  heard = option_to_list position ++ seen.rows Kind.Ballot

-- the position's own test is the same too
own_alike : (position : Option Statement) (rows : List Statement) (test other : Statement → Bool) → AllByRecursion (λ s. test s ≡ other s) (option_to_list position ++ rows) → (passes test position ≡ passes other position) × AllByRecursion (λ s. test s ≡ other s) rows
own_alike None rows test other h = (refl, h)
own_alike (Some s) rows test other h = (h.0, h.1)

-- while greater counters block, they do so up to the next one
still_blocking : (seen : Seen) → IsHonest seen → (position : Option Statement) (n m k : ℕ) → n ≤ k → k < m → NoneTo n m (next_counter n (heard seen position)) → blocks seen position n ≡ true → blocks seen position k ≡ true
still_blocking seen honest position n m k a b h e =
    let r = own_alike position (seen.rows Kind.Ballot) (has_counter (n + 1)) (has_counter (k + 1)) (counts_alike n m k (heard seen position) a b h) in
    sym (honest.blocking Kind.Ballot (passes (has_counter (k + 1)) position) (has_counter (n + 1)) (has_counter (k + 1)) r.1)
    ∙ subst (λ own. seen.blocking Kind.Ballot own (has_counter (n + 1)) ≡ true) r.0 e

-- ---- the search
-- all from the old counter to this one block
pub record Raised (seen : Seen) (position : Option Statement) (from most n : ℕ) : Type 0 where
  pub low : from ≤ n
  pub high : n ≤ from + (most - from)
  pub block : (k : ℕ) → from ≤ k → k < n → blocks seen position k ≡ true

pub not_raised : (seen : Seen) (position : Option Statement) (from most : ℕ) → Raised seen position from most from
not_raised seen position from most = record { low = omega arith; high = omega arith; block = λ k a b. absurd (omega arith) }

not_true : (b : Bool) → b ≡ true → not b ≡ false
not_true b e = rw e refl

not_false : (b : Bool) → b ≡ false → not b ≡ true
not_false b e = rw e refl

-- where greater counters do not block, or at the cap, the search is over
pub raised_far : (seen : Seen) (position : Option Statement) (from most n : ℕ) → Raised seen position from most n → (n < most → blocks seen position n ≡ false) → n ≡ least_from (most - from) from (λ k. not (blocks seen position k))
raised_far seen position from most n r h =
    let test : ℕ → Bool = λ k. not (blocks seen position k) in
    least_is_alone test (most - from) from n (least_from (most - from) from test) (record {
      low = r.low;
      high = r.high;
      passes = λ a. not_false _ (h (omega (arith, r.low, r.high)));
      first = λ k a b. not_true _ (r.block k a b);
    }) (least_from_is_exact test (most - from) from)

-- the next number to look at
abbrev pub next_number : ℕ → Option ℕ → ℕ
next_number most None = most
next_number most (Some m) = min m most

none_to : (n most : ℕ) (o : Option ℕ) → NoneTo n (next_number most o) o
none_to n most None = tt
none_to n most (Some m) = omega arith

number_low : (n most : ℕ) (o : Option ℕ) → next_number most o ≤ most
number_low n most None = omega arith
number_low n most (Some m) = omega arith

number_up : (n most : ℕ) (o : Option ℕ) → n < most → ((m : ℕ) → o ≡ Some m → n < m) → n < next_number most o
number_up n most None h f = h
number_up n most (Some m) h f = let q = f m refl in omega arith

-- it is greater
pub goes_up : (n most : ℕ) (ss : List Statement) (o : Option ℕ) → o ≡ next_counter n ss → n < most → n < next_number most o
goes_up n most ss o is h = number_up n most o h (λ m e. next_above n (filter_map counter_by ss) m (sym is ∙ e))

-- and up to it all block
pub raised_on : (seen : Seen) → IsHonest seen → (position : Option Statement) (from most n : ℕ) (o : Option ℕ) → Raised seen position from most n → o ≡ next_counter n (heard seen position) → n < most → blocks seen position n ≡ true → Raised seen position from most (next_number most o)
raised_on seen honest position from most n o r is h e =
    let u = goes_up n most (heard seen position) o is h in
    let w = number_low n most o in
    let none : NoneTo n (next_number most o) (next_counter n (heard seen position)) = subst (λ p. NoneTo n (next_number most o) p) is (none_to n most o) in
    record {
      low = omega (arith, r.low, u);
      high = omega (arith, r.low, r.high, u, w, h);
      block = λ k a b. elim (before k n) [
        | inl q ↦ r.block k a q
        | inr q ↦ still_blocking seen honest position n (next_number most o) k q b none e
      ];
    }
  where
    before : (k n : ℕ) → (k < n) ⊎ (n ≤ k)
    before k n = grind arith
