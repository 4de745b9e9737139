-- The least of the names that is not as it should be, name after name.
use Rattle.std.proofs.Common.{◌≡◌, ℕ, ◌+◌, ◌<◌, ◌≤◌, Bool, true, false, ◌==◌, ◌⊎◌, List, [], ◌∷◌, ◌++◌, take, slice_get, Option, Some, None, if◌then◌else◌, nat_lt, refl, sym, ◌∙◌, ap, subst, inl, inr, arith, IsTrue, MatchOption}
use Rattle.std.proofs.lemmas.Bool.{cases_lt, or_cases, or_left, or_right, eq-eqb, eqb-true, false≢true}
use Rattle.std.proofs.lemmas.Bool.Decides.{nat_tests}
use Rattle.scp_spec.specs.Sets.{among}
use Rattle.std.proofs.lemmas.List.Folds.{list_any-append}
use Rattle.host_closure.specs.Least.{AreAll, IsLeast, lesser_name}
use Rattle.host_closure.proofs.Places.{front_at}

module _ (Bad Good : ℕ → Type 0) where
  abbrev pub IsLeastSoFar : List ℕ → Option ℕ → Type 0
  IsLeastSoFar list least = MatchOption least (AreAll Good list) (IsLeast Bad Good list)

  module _ (list : List ℕ) (n x : ℕ) (there : slice_get list n ≡ Some x) where
    one_more : take (n + 1) list ≡ take n list ++ x ∷ []
    one_more = front_at list n x there

    either : (u : ℕ) → IsTrue (among (take (n + 1) list) u) → IsTrue (among (take n list) u) ⊎ (x ≡ u)
    either u h = elim (or_cases (among (take n list) u) (among (x ∷ []) u) (sym (ap (λ (xs : List ℕ). among xs u) one_more ∙ list_any-append (λ y. y == u) (take n list) (x ∷ [])) ∙ h)) [
      | inl k ↦ inl k
      | inr k ↦ elim (or_cases (x == u) false k) [ inl e ↦ inr (eqb-true x u e) | inr e ↦ absurd (false≢true e) ]
    ]

    old : (u : ℕ) → IsTrue (among (take n list) u) → IsTrue (among (take (n + 1) list) u)
    old u h = ap (λ (xs : List ℕ). among xs u) one_more ∙ (list_any-append (λ y. y == u) (take n list) (x ∷ []) ∙ or_left (among (take n list) u) (among (x ∷ []) u) h)

    new : IsTrue (among (take (n + 1) list) x)
    new = ap (λ (xs : List ℕ). among xs x) one_more ∙ (list_any-append (λ y. y == x) (take n list) (x ∷ []) ∙ or_right (among (take n list) x) (among (x ∷ []) x) (or_left (x == x) false (eq-eqb x x refl)))

    pub least_stays : (least : Option ℕ) → IsLeastSoFar (take n list) least → Good x → IsLeastSoFar (take (n + 1) list) least
    least_stays None h e = λ u m. elim (either u m) [ inl k ↦ h u k | inr q ↦ subst Good q e ]
    least_stays (Some u) h e = record {
      member = old u h.member;
      bad = h.bad;
      least = λ w m l. elim (either w m) [ inl k ↦ h.least w k l | inr q ↦ subst Good q e ];
    }

    pub least_moves : (least : Option ℕ) → IsLeastSoFar (take n list) least → Bad x → IsLeastSoFar (take (n + 1) list) (lesser_name least x)
    least_moves None h e = record { member = new; bad = e; least = λ w m l. elim (either w m) [ inl k ↦ h w k | inr q ↦ absurd (omega (arith, q, l)) ] }
    least_moves (Some u) h e = go (nat_lt u x) refl
      where
        go : (b : Bool) → nat_lt u x ≡ b → IsLeastSoFar (take (n + 1) list) (if b then Some u else Some x)
        go true l = record {
          member = old u h.member;
          bad = h.bad;
          least = λ w m k. elim (either w m) [ inl i ↦ h.least w i k | inr q ↦ absurd (let a : u < x = grind (arith, nat_tests) in omega (arith, a, q, k)) ];
        }
        go false l = record {
          member = new;
          bad = e;
          least = λ w m k. let a : x ≤ u = grind (arith, nat_tests) in elim (either w m) [ inl i ↦ elim (cases_lt w u) [ inl b ↦ h.least w i b | inr b ↦ absurd (omega (arith, a, b, k)) ] | inr q ↦ absurd (omega (arith, q, k)) ];
        }
