-- To try candidates from the greatest down finds the greatest that passes.
use Rattle.std.proofs.Common.{◌≡◌, ◌<◌, ◌≤◌, Bool, true, false, cond, List, [], ◌∷◌, length, filter, Option, Some, None, Result, Ok, Err, IfOk, refl, sym, ◌∙◌, subst, ap, inl, inr, arith}
use Rattle.std.specs.Option.{option_or}
use Rattle.std.proofs.lemmas.Bool.{cases_Bool, true≢false}
use Rattle.scp_types.specs.declared.ballot.Ballot.{Ballot}
use Rattle.scp_spec.specs.States.{below}
use Rattle.scp_spec.specs.Candidates.{greatest}
use Rattle.scp_spec.specs.Extremes.{IsIn}
use Rattle.scp_spec.proofs.Ballots.Order.{below-self, below-trans, below-along, one_ballot}
use Rattle.scp_spec.proofs.Ballots.Above.{above, greatest-above, greatest-still, greatest-from, in-filter, from-filter}
use Rattle.scp_voting.specs.Searching.{is_under, next_under}

-- no more pass a test that is harder
fewer : (p q : Ballot → Bool) → ((x : Ballot) → p x ≡ true → q x ≡ true) → (ts : List Ballot) → length (filter p ts) ≤ length (filter q ts)
fewer p q f [] = omega arith
fewer p q f (x ∷ xs) = go (p x) (q x) refl refl (fewer p q f xs)
  where
    go : (a b : Bool) → p x ≡ a → q x ≡ b → length (filter p xs) ≤ length (filter q xs) → length (cond a (x ∷ filter p xs) (filter p xs)) ≤ length (cond b (x ∷ filter q xs) (filter q xs))
    go true true e g h = omega arith
    go true false e g h = absurd (true≢false (sym (f x e) ∙ g))
    go false true e g h = omega arith
    go false false e g h = h

-- and fewer, where one that passed does not any more
fewer_by : (p q : Ballot → Bool) → ((x : Ballot) → p x ≡ true → q x ≡ true) → (ts : List Ballot) (t : Ballot) → IsIn t ts → q t ≡ true → p t ≡ false → length (filter p ts) < length (filter q ts)
fewer_by p q f [] t i a b = absurd i
fewer_by p q f (x ∷ xs) t i a b = go (p x) (q x) refl refl i (λ j. fewer_by p q f xs t j a b)
  where
    go : (v w : Bool) → p x ≡ v → q x ≡ w → IsIn t (x ∷ xs) → (IsIn t xs → length (filter p xs) < length (filter q xs)) → length (cond v (x ∷ filter p xs) (filter p xs)) < length (cond w (x ∷ filter q xs) (filter q xs))
    go true w e g (inl k) ih = absurd (true≢false (sym e ∙ ap p (sym k) ∙ b))
    go false false e g (inl k) ih = absurd (true≢false (sym a ∙ ap q k ∙ g))
    go false true e g (inl k) ih = let h = fewer p q f xs in omega arith
    go true true e g (inr j) ih = let h = ih j in omega arith
    go true false e g (inr j) ih = absurd (true≢false (sym (f x e) ∙ g))
    go false true e g (inr j) ih = let h = ih j in omega arith
    go false false e g (inr j) ih = ih j

-- what is below a ballot under the bound is under it
under_along : (bound : Option Ballot) (t x : Ballot) → is_under bound t ≡ true → below x t ≡ true → is_under bound x ≡ true
under_along None t x u h = refl
under_along (Some b) t x u h = below-along x t b h u

module _ (listed : List Ballot) (holds : Ballot → Bool) where
  -- each candidate that is not under the bound was tried and fails
  pub record Tried (bound : Option Ballot) : Type 0 where
    pub fails : (x : Ballot) → IsIn x listed → is_under bound x ≡ false → holds x ≡ false

  -- those that pass are under the bound
  passing : (bound : Option Ballot) → Tried bound → (x : Ballot) → IsIn x (filter holds listed) → IsIn x (filter (is_under bound) listed)
  passing bound tried x i = let r = from-filter holds x listed i in elim (cases_Bool (is_under bound x)) [
    | inl e ↦ in-filter (is_under bound) x listed r.0 e
    | inr e ↦ absurd (true≢false (sym r.1 ∙ tried.fails x r.0 e))
  ]

  -- the next candidate is one of the list under the bound
  pub next_in : (bound : Option Ballot) (t : Ballot) → next_under bound listed ≡ Some t → IsIn t (filter (is_under bound) listed)
  next_in bound t e = elim (greatest-from None (filter (is_under bound) listed) t e) [
    | inl k ↦ cc
    | inr i ↦ i
  ]

  -- and none under the bound is above it
  pub next_above : (bound : Option Ballot) (t : Ballot) → next_under bound listed ≡ Some t → (x : Ballot) → IsIn x (filter (is_under bound) listed) → below t x ≡ false
  next_above bound t e x i = subst (λ (o : Option Ballot). above o x ≡ false) e (greatest-above None (filter (is_under bound) listed) x i)

  pub none_left : (bound there : Option Ballot) → Tried bound → next_under bound listed ≡ None → greatest there (filter holds listed) ≡ there
  none_left bound there tried e =
      greatest-still there (filter holds listed) (λ x i. absurd (true≢false (subst (λ (o : Option Ballot). above o x ≡ false) e (greatest-above None (filter (is_under bound) listed) x (passing bound tried x i)))))

  pub too_low : (bound there : Option Ballot) (t : Ballot) → Tried bound → next_under bound listed ≡ Some t → above there t ≡ false → greatest there (filter holds listed) ≡ there
  too_low bound None t tried e low = absurd (true≢false low)
  too_low bound (Some a) t tried e low = greatest-still (Some a) (filter holds listed) (λ x i. below-trans a t x low (next_above bound t e x (passing bound tried x i)))

  pub found : (bound there : Option Ballot) (t : Ballot) → Tried bound → next_under bound listed ≡ Some t → above there t ≡ true → holds t ≡ true → greatest there (filter holds listed) ≡ Some t
  found bound there t tried e up h =
      let inside = in-filter holds t listed (from-filter (is_under bound) t listed (next_in bound t e)).0 h in
      go (greatest there (filter holds listed)) refl (greatest-above there (filter holds listed) t inside) there refl up
    where
      go : (o : Option Ballot) → greatest there (filter holds listed) ≡ o → above o t ≡ false → (a : Option Ballot) → there ≡ a → above a t ≡ true → o ≡ Some t
      go None q k a f u = absurd (true≢false k)
      go (Some g) q k a f u = elim (greatest-from there (filter holds listed) g q) [
        | inl l ↦ absurd (true≢false (sym (subst (λ (o : Option Ballot). above o t ≡ true) (sym f ∙ l) u) ∙ k))
        | inr i ↦ ap {B = Option Ballot} Some (one_ballot g t k (next_above bound t e g (passing bound tried g i)))
      ]

  pub tried_next : (bound : Option Ballot) (t : Ballot) → Tried bound → next_under bound listed ≡ Some t → holds t ≡ false → Tried (Some t)
  tried_next bound t tried e n = record {
    fails = λ x i h. elim (cases_Bool (is_under bound x)) [
      | inl u ↦ ap holds (one_ballot x t h (next_above bound t e x (in-filter (is_under bound) x listed i u))) ∙ n
      | inr u ↦ tried.fails x i u
    ];
  }

  pub comes_down : (bound : Option Ballot) (t : Ballot) → next_under bound listed ≡ Some t → length (filter (is_under (Some t)) listed) < length (filter (is_under bound) listed)
  comes_down bound t e =
      let r = from-filter (is_under bound) t listed (next_in bound t e) in
      fewer_by (is_under (Some t)) (is_under bound) (λ x h. under_along bound t x r.1 h) listed t r.0 r.1 (below-self t)

-- where there was no ballot, what is found is all
pub found_alone : {E : Type 0} (r : Result (Option Ballot) E) (p : Option Ballot) → IfOk r (λ o. option_or o None ≡ p) → IfOk r (λ o. o ≡ p)
found_alone (Ok None) p h = h
found_alone (Ok (Some x)) p h = h
found_alone (Err e) p h = tt
