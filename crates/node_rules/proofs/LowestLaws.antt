-- Trying candidates from an end down to the last finds the least counter that passes.
use Rattle.std.proofs.Common.{◌≡◌, ℕ, ◌≤◌, Bool, true, false, List, filter, Option, Some, None, refl, sym, ◌∙◌, ap, subst, inl, inr, ◌⊎◌, arith}
use Rattle.std.proofs.lemmas.Bool.{cases_Bool, true≢false}
use Rattle.scp_types.specs.declared.ballot.Ballot.{Ballot}
use Rattle.scp_types.specs.Votes.{same_value}
use Rattle.scp_spec.specs.States.{below, ballot_with}
use Rattle.scp_spec.specs.Candidates.{lowest}
use Rattle.scp_spec.specs.Extremes.{IsIn, IsLowest}
use Rattle.scp_spec.proofs.Ballots.Order.{below-counter, not_below-counter, one_ballot}
use Rattle.scp_spec.proofs.Equality.Sameness.{same_value-true}
use Rattle.scp_spec.proofs.Ballots.LeastCounters.{lowest_is_exact}
use Rattle.scp_spec.proofs.Ballots.Above.{above, greatest-above, in-filter, from-filter}
use Rattle.scp_voting.specs.Searching.{is_under, next_under}
use Rattle.node_rules.proofs.SearchLaws.{next_in, next_above}

-- ---- what is lowest is one number
not_over : (test : ℕ → Bool) (x : List ℕ) (low : ℕ) (ts : List Ballot) (m n : ℕ) → IsLowest test x low ts m → IsLowest test x low ts n → m ≤ n
not_over test x low ts m n a b = elim b.from [
  | inl e ↦ subst (λ k. m ≤ k) (sym e) a.upto
  | inr r ↦ subst (λ k. m ≤ k) r.1.1.1.1 (a.below r.0 r.1.0 r.1.1.0 r.1.1.1.0)
]

pub lowest_is_alone : (test : ℕ → Bool) (x : List ℕ) (low : ℕ) (ts : List Ballot) (m n : ℕ) → IsLowest test x low ts m → IsLowest test x low ts n → m ≡ n
lowest_is_alone test x low ts m n a b = let h = not_over test x low ts m n a b in let k = not_over test x low ts n m b a in omega (arith, h, k)

-- ---- the least so far
module _ (listed : List Ballot) (holds : Ballot → Bool) (end : Ballot) where
  -- the end's value passes at this counter
  abbrev pub at_counter : ℕ → Bool
  at_counter n = holds (ballot_with n end.value)

  -- the least counter that passes of the end's own and of the candidates that are not below the bound
  pub record IsLeast (bound : Ballot) (least : ℕ) : Type 0 where
    pub upto : least ≤ end.counter
    pub ends : bound.counter ≤ end.counter
    pub below : (t : Ballot) → IsIn t listed → below t bound ≡ false → same_value t.value end.value ≡ true → at_counter t.counter ≡ true → least ≤ t.counter
    pub from : (least ≡ end.counter) ⊎ ((t : Ballot) × (IsIn t listed × ((same_value t.value end.value ≡ true) × ((at_counter t.counter ≡ true) × (t.counter ≡ least)))))

  -- none is left below the bound
  none_under : (bound u : Ballot) → next_under (Some bound) listed ≡ None → IsIn u listed → below u bound ≡ false
  none_under bound u e i = elim (cases_Bool (below u bound)) [
    | inl h ↦ absurd (true≢false (subst (λ (o : Option Ballot). above o u ≡ false) e (greatest-above None (filter (is_under (Some bound)) listed) u (in-filter (is_under (Some bound)) u listed i h))))
    | inr h ↦ h
  ]

  pub least_at_last : (bound : Ballot) (least : ℕ) → IsLeast bound least → next_under (Some bound) listed ≡ None → least ≡ lowest at_counter end.value end.counter listed
  least_at_last bound least is e = lowest_is_alone at_counter end.value end.counter listed least (lowest at_counter end.value end.counter listed)
      (record { upto = is.upto; below = λ t i v h. is.below t i (none_under bound t e i) v h; from = is.from })
      (lowest_is_exact at_counter end.value end.counter listed)

  -- a candidate of the value passes just where the value does at its counter
  at_its_counter : (t : Ballot) → same_value t.value end.value ≡ true → at_counter t.counter ≡ holds t
  at_its_counter t v = ap (λ x. holds (ballot_with t.counter x)) (sym (same_value-true t.value end.value v))

  pub least_passes : (bound t : Ballot) (least : ℕ) → IsLeast bound least → next_under (Some bound) listed ≡ Some t → same_value t.value end.value ≡ true → holds t ≡ true → IsLeast t t.counter
  least_passes bound t least is e v h =
      let r = from-filter (is_under (Some bound)) t listed (next_in listed holds (Some bound) t e) in
      let k = below-counter t bound r.1 in
      let o = is.ends in
      record {
        upto = omega (arith, k, o);
        ends = omega (arith, k, o);
        below = λ u i n w j. not_below-counter u t n;
        from = inr (t, (r.0, (v, (at_its_counter t v ∙ h, refl))));
      }

  pub least_fails : (bound t : Ballot) (least : ℕ) → IsLeast bound least → next_under (Some bound) listed ≡ Some t → (same_value t.value end.value ≡ true → holds t ≡ false) → IsLeast t least
  least_fails bound t least is e f =
      let r = from-filter (is_under (Some bound)) t listed (next_in listed holds (Some bound) t e) in
      let k = below-counter t bound r.1 in
      let o = is.ends in
      record {
        upto = is.upto;
        ends = omega (arith, k, o);
        below = λ u i n v h. elim (cases_Bool (below u bound)) [
          | inl b ↦
              let one = one_ballot u t n (next_above listed holds (Some bound) t e u (in-filter (is_under (Some bound)) u listed i b)) in
              absurd (true≢false (sym h ∙ at_its_counter u v ∙ ap holds one ∙ f (subst (λ (y : Ballot). same_value y.value end.value ≡ true) one v)))
          | inr b ↦ is.below u i b v h
        ];
        from = is.from;
      }
