-- Every two submissions to a network have one answer, and only one. The law `crowds_are_determined` and `Worked` stand
-- on it.
use Rattle.std.proofs.Common.{◌≡◌, ◌≢◌, ◌⊎◌, ℕ, ◌<◌, ◌+◌, true, false, ◌&&◌, not, Option, Some, None, List, slice_get, refl, sym, ◌∙◌, ap, inl, inr, arith}
use Rattle.std.proofs.lemmas.Bool.{cases_Bool, cases_order, and_parts, and_from, true≢false, not-true, not_from_false}
use Rattle.scp_spec.specs.Sets.{Names, among, AreWithin}
use Rattle.scp_spec.specs.Rosters.{Roster}
use Rattle.scp_spec.specs.Networks.{Reading, Step}
use Rattle.scp_spec.specs.Hosts.{Config, History, nodes_of, entries}
use Rattle.scp_spec.specs.Isolation.{closure, SameCast}
use Rattle.scp_spec.specs.Verdicts.{IsFirstUnlike, IsFirstDifference}
use Rattle.scp_spec.specs.Submissions.{answers, concerning_steps, replied_to, config_of, SameRoster, SameReserves, roster_names}
use Rattle.scp_spec.specs.Crowds.{Crowd, IsFirstOutside, IsCrowd, CrowdsExist, CrowdsAreUnique}
use Rattle.scp_spec.specs.Crowds.Crowd.{CastDiffers, RosterDiffers, OutsideRoster, InputsDiffer, Same}
use Rattle.scp_spec.proofs.Verdicts.Determined.{one_instance, one_unlike, not_unlike}
use Rattle.scp_spec.proofs.Equality.Decisions.{decided_ℕ, decided_shares}
use Rattle.scp_spec.proofs.Equality.Steps.{decided_bool, decided_step}
use Rattle.scp_spec.proofs.Equality.FirstDifference.{first_difference}
use Rattle.scp_spec.proofs.Equality.LeastNumber.{bound_of, among-below, least_among}
use Rattle.scp_spec.proofs.Verdicts.Found.{is_no, is_no-true, is_no-false, closure-bound, closure-below, cast_found}
use Rattle.scp_spec.proofs.Crowds.Members.{never_crowded_out}

-- the closure of v in a history
abbrev pub closure_in : (List ℕ → Reading) → History → ℕ → ℕ → ℕ → Names
closure_in decode h g i v = closure (nodes_of h.configs g) i v (entries decode h g)

-- ---- rosters
module _ (xs ys : List ℕ) where
  unshared : Names
  unshared u = is_no (decided_bool (among xs u) (among ys u))

  unshared-below : (u : ℕ) → unshared u ≡ true → u < bound_of xs + bound_of ys
  unfolding unshared
  unshared-below u h = elim (cases_Bool (among xs u)) [
    | inl e ↦ let l = among-below xs u e in omega (arith, l)
    | inr o ↦ elim (cases_Bool (among ys u)) [
      | inl e ↦ let l = among-below ys u e in omega (arith, l)
      | inr p ↦ absurd (is_no-true (decided_bool (among xs u) (among ys u)) h (o ∙ sym p))
    ]
  ]

  same_names : ((u : ℕ) → among xs u ≡ among ys u) ⊎ (((u : ℕ) → among xs u ≡ among ys u) → ⊥)
  unfolding unshared
  same_names = elim (least_among unshared (bound_of xs + bound_of ys) unshared-below) [
    | inl f ↦ inl (λ u. is_no-false (decided_bool (among xs u) (among ys u)) (f u))
    | inr p ↦ inr (λ q. is_no-true (decided_bool (among xs p.0) (among ys p.0)) p.1.passes (q p.0))
  ]

same_roster : (a b : Option Roster) → SameRoster a b ⊎ (SameRoster a b → ⊥)
same_roster None b = inr (λ h. h)
same_roster (Some r) None = inr (λ h. h)
same_roster (Some r) (Some s) = go (same_names r.names s.names) (decided_shares r.shares s.shares)
  where
    go : ((u : ℕ) → among r.names u ≡ among s.names u) ⊎ (((u : ℕ) → among r.names u ≡ among s.names u) → ⊥)
        → (r.shares ≡ s.shares) ⊎ (r.shares ≢ s.shares)
        → SameRoster (Some r) (Some s) ⊎ (SameRoster (Some r) (Some s) → ⊥)
    go (inl f) (inl e) = inl (f, e)
    go (inl f) (inr n) = inr (λ h. n h.1)
    go (inr n) d = inr (λ h. n h.0)

same_reserves : (a b : Option Config) → SameReserves a b ⊎ (SameReserves a b → ⊥)
same_reserves None b = inr (λ h. h)
same_reserves (Some c) None = inr (λ h. h)
same_reserves (Some c) (Some d) = go (same_roster c.roster d.roster) (decided_ℕ c.budgets.slots d.budgets.slots)
  where
    go : SameRoster c.roster d.roster ⊎ (SameRoster c.roster d.roster → ⊥)
        → (c.budgets.slots ≡ d.budgets.slots) ⊎ (c.budgets.slots ≢ d.budgets.slots)
        → SameReserves (Some c) (Some d) ⊎ (SameReserves (Some c) (Some d) → ⊥)
    go (inl f) (inl e) = inl (f, e)
    go (inl f) (inr n) = inr (λ h. n h.1)
    go (inr n) d = inr (λ h. n h.0)

-- ---- names outside
module _ (R : Names) (names : List ℕ) where
  strays : Names
  strays u = R u && not (among names u)

  stays : (u : ℕ) → R u ≡ true → strays u ≡ false → among names u ≡ true
  unfolding strays
  stays u r h = elim (cases_Bool (among names u)) [
    | inl e ↦ e
    | inr o ↦ absurd (true≢false (sym (and_from (R u) (not (among names u)) r (not_from_false (among names u) o)) ∙ h))
  ]

  outside_found : (bound : ℕ) → ((u : ℕ) → R u ≡ true → u < bound)
      → AreWithin R (among names) ⊎ ((u : ℕ) × IsFirstOutside R names u)
  unfolding strays
  outside_found bound below =
      elim (least_among strays bound (λ u p. below u (and_parts (R u) (not (among names u)) p).0)) [
        | inl f ↦ inl (λ u r. stays u r (f u))
        | inr p ↦ let q = and_parts (R p.0) (not (among names p.0)) p.1.passes in
            inr (
              p.0,
              record {
                member = q.0;
                outside = not-true (among names p.0) q.1;
                least = λ w r l. stays w r (p.1.none_before w l);
              },
            )
      ]

  one_outside : (u w : ℕ) → IsFirstOutside R names u → IsFirstOutside R names w → u ≡ w
  one_outside u w a b = elim (cases_order u w) [
    | inl e ↦ e
    | inr (inl l) ↦ absurd (true≢false (sym (b.least u a.member l) ∙ a.outside))
    | inr (inr l) ↦ absurd (true≢false (sym (a.least w b.member l) ∙ b.outside))
  ]

  not_outside : (u : ℕ) → IsFirstOutside R names u → AreWithin R (among names) → ⊥
  not_outside u a f = true≢false (sym (f u a.member) ∙ a.outside)

-- ---- an answer
module _ (decode : List ℕ → Reading) (one other : History) (g i v : ℕ) where
  R : Names
  R = closure (nodes_of one.configs g) i v (entries decode one g)

  pub crowd_found : (c : Crowd) × IsCrowd decode one other g i v c
  unfolding R
  crowd_found =
      go (cast_found R v (nodes_of one.configs g) (nodes_of other.configs g) bound below)
      (same_reserves (config_of one.configs g) (config_of other.configs g))
      (outside_found R (roster_names (config_of one.configs g)) bound below)
      (first_difference decided_step (concerning_steps R i (answers decode one g))
      (concerning_steps R i (answers decode other g)))
    where
      bound : ℕ
      bound = closure-bound (nodes_of one.configs g) i v (entries decode one g)

      below : (u : ℕ) → R u ≡ true → u < bound
      below u h = closure-below (nodes_of one.configs g) i v (entries decode one g) u h

      go : SameCast R v (nodes_of one.configs g) (nodes_of other.configs g)
          ⊎ ((u : ℕ) × IsFirstUnlike R v (nodes_of one.configs g) (nodes_of other.configs g) u)
          → SameReserves (config_of one.configs g) (config_of other.configs g)
          ⊎ (SameReserves (config_of one.configs g) (config_of other.configs g) → ⊥)
          → AreWithin R (among (roster_names (config_of one.configs g)))
          ⊎ ((u : ℕ) × IsFirstOutside R (roster_names (config_of one.configs g)) u)
          → (concerning_steps R i (answers decode one g) ≡ concerning_steps R i (answers decode other g))
          ⊎ ((place : ℕ) × IsFirstDifference (concerning_steps R i (answers decode one g))
          (concerning_steps R i (answers decode other g)) place)
          → (c : Crowd) × IsCrowd decode one other g i v c
      go (inr p) b c d = (CastDiffers p.0, p.1)
      go (inl a) (inr n) c d = (RosterDiffers, (a, n))
      go (inl a) (inl b) (inr p) d = (OutsideRoster p.0, (a, (b, p.1)))
      go (inl a) (inl b) (inl c) (inr p) = (InputsDiffer p.0, (a, (b, (c, p.1))))
      go (inl a) (inl b) (inl c) (inl d) = (
        Same (replied_to R i (answers decode one g)),
        (a, (b, (c, (d, (refl, (never_crowded_out decode one other g i v a b c d).0))))),
      )

pub crowds_exist : CrowdsExist
crowds_exist decode one other g i v = crowd_found decode one other g i v

-- ---- and only one
pub crowds_are_unique : CrowdsAreUnique
crowds_are_unique decode one other g i v a b h k = go a b h k
  where
    S : Names
    S = closure_in decode one g i v

    casts : (u : ℕ) → IsFirstUnlike S v (nodes_of one.configs g) (nodes_of other.configs g) u
        → SameCast S v (nodes_of one.configs g) (nodes_of other.configs g) → ⊥
    casts u h c = not_unlike S v (nodes_of one.configs g) (nodes_of other.configs g) u h c

    outside : (u : ℕ) → IsFirstOutside S (roster_names (config_of one.configs g)) u
        → AreWithin S (among (roster_names (config_of one.configs g))) → ⊥
    outside u h c = not_outside S (roster_names (config_of one.configs g)) u h c

    steps : History → List Step
    steps h = concerning_steps S i (answers decode h g)

    differ : (place : ℕ) → IsFirstDifference (steps one) (steps other) place → steps one ≡ steps other → ⊥
    differ place h e = h.there (ap (λ es. slice_get es place) e)

    go : (a b : Crowd) → IsCrowd decode one other g i v a → IsCrowd decode one other g i v b → a ≡ b
    go (CastDiffers u) (CastDiffers w) h k =
        ap {B = Crowd} CastDiffers (one_unlike S v (nodes_of one.configs g) (nodes_of other.configs g) u w h k)
    go (CastDiffers u) _ h k = absurd (casts u h k.0)
    go _ (CastDiffers w) h k = absurd (casts w k h.0)
    go RosterDiffers RosterDiffers h k = refl
    go RosterDiffers _ h k = absurd (h.1 k.1.0)
    go _ RosterDiffers h k = absurd (k.1 h.1.0)
    go (OutsideRoster u) (OutsideRoster w) h k =
        ap {B = Crowd} OutsideRoster (one_outside S (roster_names (config_of one.configs g)) u w h.1.1 k.1.1)
    go (OutsideRoster u) _ h k = absurd (outside u h.1.1 k.1.1.0)
    go _ (OutsideRoster w) h k = absurd (outside w k.1.1 h.1.1.0)
    go (InputsDiffer p) (InputsDiffer q) h k =
        ap {B = Crowd} InputsDiffer (one_instance (steps one) (steps other) p q h.1.1.1 k.1.1.1)
    go (InputsDiffer p) (Same rs) h k = absurd (differ p h.1.1.1 k.1.1.1.0)
    go (Same rs) (InputsDiffer q) h k = absurd (differ q k.1.1.1 h.1.1.1.0)
    go (Same rs) (Same ss) h k = ap {B = Crowd} Same (h.1.1.1.1.0 ∙ sym k.1.1.1.1.0)
