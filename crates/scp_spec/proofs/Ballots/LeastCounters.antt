-- The least counters: what a search from any end has to show. The law `extremes_are_exact`, `Sending` and the crate
-- `node_rules` stand on it.
use Rattle.std.proofs.Common.{◌≡◌, ℕ, zero, suc, ◌+◌, ◌≤◌, ◌<◌, Bool, true, false, ◌&&◌, nat_lt, List, [], ◌∷◌, if◌then◌else◌, refl, sym, subst, inl, inr, ◌⊎◌, arith}
use Rattle.std.proofs.lemmas.Bool.{cases_Bool, and_parts, and_from}
use Rattle.std.proofs.lemmas.Bool.Decides.{nat_tests}
use Rattle.scp_types.specs.declared.ballot.Ballot.{Ballot}
use Rattle.scp_types.specs.Votes.{same_value}
use Rattle.scp_spec.specs.Candidates.{lowest, least_from}
use Rattle.scp_spec.specs.Extremes.{IsIn, LowestIsExact, LeastFromIsExact}
use Rattle.scp_spec.proofs.Ballots.Above.{least_from-low, lowest-low}

-- ---- the lowest commit counter
module _ (test : ℕ → Bool) (x : List ℕ) where
  lowest-below : (low : ℕ) (ts : List Ballot) (t : Ballot) → IsIn t ts → same_value t.value x ≡ true
      → test t.counter ≡ true → lowest test x low ts ≤ t.counter
  unfolding lowest
  lowest-below low [] t i v h = absurd i
  lowest-below low (s ∷ ts) t (inr i) v h =
      lowest-below (if same_value s.value x && nat_lt s.counter low && test s.counter then s.counter else low) ts t i v h
  lowest-below low (s ∷ ts) t (inl e) v h =
      let sv : same_value s.value x ≡ true = subst (λ (b : Ballot). same_value b.value x ≡ true) e v in
      let sh : test s.counter ≡ true = subst (λ (b : Ballot). test b.counter ≡ true) e h in
      subst (λ (b : Ballot). lowest test x
      (if same_value s.value x && nat_lt s.counter low && test s.counter then s.counter else low) ts ≤ b.counter)
      (sym e) (elim (cases_Bool (nat_lt s.counter low)) [
        | inl l ↦ let a =
            and_from (same_value s.value x && nat_lt s.counter low) (test s.counter)
            (and_from (same_value s.value x) (nat_lt s.counter low) sv l) sh in rw a (lowest-low test x s.counter ts)
        | inr l ↦ elim (cases_Bool (same_value s.value x && nat_lt s.counter low && test s.counter)) [
          | inl a ↦ rw a (lowest-low test x s.counter ts)
          | inr a ↦ rw a (through _ low s.counter (lowest-low test x low ts) l)
        ]
      ])
    where
      through : (a b c : ℕ) → a ≤ b → nat_lt c b ≡ false → a ≤ c
      through a b c h k = grind (arith, nat_tests)

  lowest-from : (low : ℕ) (ts : List Ballot)
      → (lowest test x low ts ≡ low)
      ⊎ ((t : Ballot) × (IsIn t ts × ((same_value t.value x ≡ true)
      × ((test t.counter ≡ true) × (t.counter ≡ lowest test x low ts)))))
  unfolding lowest
  lowest-from low [] = inl refl
  lowest-from low (s ∷ ts) = elim (cases_Bool (same_value s.value x && nat_lt s.counter low && test s.counter)) [
    | inl a ↦
        let p = and_parts (same_value s.value x && nat_lt s.counter low) (test s.counter) a in
        let q = and_parts (same_value s.value x) (nat_lt s.counter low) p.0 in
        elim (lowest-from s.counter ts) [
          | inl e ↦ inr (s, (inl refl, (q.0, (p.1, rw a (sym e)))))
          | inr r ↦ inr (r.0, (inr r.1.0, (r.1.1.0, (r.1.1.1.0, rw a r.1.1.1.1))))
        ]
    | inr a ↦ elim (lowest-from low ts) [
      | inl e ↦ inl (rw a e)
      | inr r ↦ inr (r.0, (inr r.1.0, (r.1.1.0, (r.1.1.1.0, rw a r.1.1.1.1))))
    ]
  ]

pub lowest_is_exact : LowestIsExact
lowest_is_exact test x low ts =
    record { upto = lowest-low test x low ts; below = lowest-below test x low ts; from = lowest-from test x low ts }

-- ---- the least number that passes
least-high : (test : ℕ → Bool) (fuel n : ℕ) → least_from fuel n test ≤ n + fuel
unfolding least_from
least-high test zero n = omega arith
least-high test (suc fuel) n =
    let k = least-high test fuel (n + 1) in
    elim (cases_Bool (test n)) [ inl e ↦ rw e (omega arith) | inr e ↦ rw e (omega (arith, k)) ]

least-passes : (test : ℕ → Bool) (fuel n : ℕ) → least_from fuel n test < n + fuel → test (least_from fuel n test) ≡ true
unfolding least_from
least-passes test zero n h = absurd (omega (arith, h))
least-passes test (suc fuel) n h = elim (cases_Bool (test n)) [
  | inl e ↦ rw e e
  | inr e ↦ let k : least_from fuel (n + 1) test < n + suc fuel = rw e at h in
      rw e (least-passes test fuel (n + 1) (omega (arith, k)))
]

least-first : (test : ℕ → Bool) (fuel n k : ℕ) → n ≤ k → k < least_from fuel n test → test k ≡ false
unfolding least_from
least-first test zero n k l h = absurd (omega (arith, l, h))
least-first test (suc fuel) n k l h = elim (cases_Bool (test n)) [
  | inl e ↦ let j : k < n = rw e at h in absurd (omega (arith, l, j))
  | inr e ↦ let j : k < least_from fuel (n + 1) test = rw e at h in elim (split n k l) [
    | inl q ↦ subst (λ m. test m ≡ false) q e
    | inr q ↦ least-first test fuel (n + 1) k q j
  ]
]
  where
    split : (n k : ℕ) → n ≤ k → (n ≡ k) ⊎ (n + 1 ≤ k)
    split n k l = elim (cases_Bool (nat_lt n k)) [ inl e ↦ inr (over n k e) | inr e ↦ inl (same n k l e) ]
      where
        over : (n k : ℕ) → nat_lt n k ≡ true → n + 1 ≤ k
        over n k e = grind (arith, nat_tests)

        same : (n k : ℕ) → n ≤ k → nat_lt n k ≡ false → n ≡ k
        same n k l e = grind (arith, nat_tests)

pub least_from_is_exact : LeastFromIsExact
least_from_is_exact test fuel n =
    record {
      low = least_from-low fuel n test;
      high = least-high test fuel n;
      passes = least-passes test fuel n;
      first = least-first test fuel n;
    }
