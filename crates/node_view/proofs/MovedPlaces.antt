-- Where nodes stand in another list, one node after the other.
use Rattle.std.proofs.Common.{◌≡◌, ℕ, ◌<◌, ◌+◌, List, [], ◌∷◌, ◌++◌, IfSome, IsTrue, Option, Some, None, get_or, is_some, length, unwrap_or, subst, sym, ap, ◌∙◌, arith, inl, inr}
use Rattle.std.proofs.lemmas.Bool.{cases_lt}
use Rattle.std.proofs.lemmas.List.{get_or_append_left, get_or_default}
use Rattle.std.proofs.Math.Seq.{get_or-append_seam}
use Rattle.scp_spec.specs.Sets.{among}

module _ (all : List ℕ) where
  -- a node stands at this place, if it is listed
  abbrev pub StandsAt : ℕ → ℕ → Type 0
  StandsAt u p = IsTrue (among all u) → (p < length all) × (get_or all p 0 ≡ u)

  -- at the place that was found, and at any where none was
  pub found_stands : (u n : ℕ) (o : Option ℕ) → is_some o ≡ among all u → IfSome o (λ i. (i < length all) × (get_or all i 0 ≡ u)) → StandsAt u (unwrap_or o n)
  found_stands u n None is at listed = cc
  found_stands u n (Some i) is at listed = at

  -- and so one node more
  pub stands_more : (us places more : List ℕ) (k u p : ℕ) → length places ≡ k → k < length us → u ≡ get_or us k u → more ≡ places ++ p ∷ [] → StandsAt u p
      → ((i : ℕ) → i < k → StandsAt (get_or us i 0) (get_or places i 0)) → (i : ℕ) → i < k + 1 → StandsAt (get_or us i 0) (get_or more i 0)
  stands_more us places more k u p counted within at pushed stands so_far i inside =
      subst (λ ps. StandsAt (get_or us i 0) (get_or ps i 0)) (sym pushed)
      (elim (cases_lt i k) [
        | inl before ↦
            let same : get_or (places ++ p ∷ []) i 0 ≡ get_or places i 0 = get_or_append_left places (p ∷ []) 0 i (omega (arith, before, counted)) in
            subst (λ q. StandsAt (get_or us i 0) q) (sym same) (so_far i before)
        | inr behind ↦
            let last : i ≡ length places = omega (arith, behind, inside, counted) in
            let place : p ≡ get_or (places ++ p ∷ []) i 0 = sym (ap (λ n. get_or (places ++ p ∷ []) n 0) last ∙ get_or-append_seam places p [] 0) in
            let node : u ≡ get_or us i 0 = at ∙ get_or_default us k u 0 within ∙ ap (λ n. get_or us n 0) (sym (last ∙ counted)) in
            subst (λ w. StandsAt w (get_or (places ++ p ∷ []) i 0)) node (subst (λ q. StandsAt u q) place stands)
      ])
