-- A set has the values of its list, and what values are combined to is the greatest of them. The law
-- `value_sets_are_exact` stands on it.
use Rattle.std.proofs.Common.{◌≡◌, ℕ, Bool, true, false, ◌||◌, List, [], ◌∷◌, if◌then◌else◌, refl, sym, ◌∙◌, ap, inl, inr, ◌⊎◌}
use Rattle.std.proofs.lemmas.Bool.{or_cases, or_left, or_right, false≢true}
use Rattle.std.proofs.lemmas.Cmp.{nat_list_cmp_total}
use Rattle.scp_types.specs.Votes.{same_value, has_value}
use Rattle.scp_spec.specs.Candidates.{greatest_value, combine}
use Rattle.scp_spec.specs.ValueSets.{SetsAreAlone, SetsAreExact, MoreAreAdded, IsGreatestValue, CombinedToGreatest}
use Rattle.scp_spec.proofs.Ballots.Order.{less, less-self, less-asym, lt-up}
use Rattle.scp_spec.proofs.Nominating.Ascending.{all-ascending}
use Rattle.scp_spec.proofs.Equality.Sameness.{same_value-true, same_value-refl}
use Rattle.scp_spec.proofs.Nominating.ValueSets.{set_ascending, has_all, one_set}

pub sets_are_alone : SetsAreAlone
sets_are_alone = one_set

pub more_are_added : MoreAreAdded
more_are_added ys xs up = (all-ascending ys xs up, has_all ys xs)

pub sets_are_exact : SetsAreExact
sets_are_exact xs = (set_ascending xs, λ z. has_all xs [] z ∙ alone (has_value xs z))
  where
    alone : (a : Bool) → (a || false) ≡ a
    alone true = refl
    alone false = refl

-- x not below y and y not below z: x not below z
not_below-along : (x y z : List ℕ) → less x y ≡ false → less y z ≡ false → less x z ≡ false
not_below-along x y z h k = lt-up nat_list_cmp_total x y z h k

greatest_from : (x : List ℕ) (xs : List (List ℕ)) → IsGreatestValue (x ∷ xs) (greatest_value x xs)
unfolding greatest_value
greatest_from x [] =
    record {
      has = or_left (same_value x x) false (same_value-refl x);
      above = λ y h. only y (or_cases (same_value x y) false h);
    }
  where
    only : (y : List ℕ) → (same_value x y ≡ true) ⊎ (false ≡ true) → less x y ≡ false
    only y (inl e) = ap (λ n. less x n) (sym (same_value-true x y e)) ∙ less-self x
    only y (inr e) = absurd (false≢true e)
greatest_from x (y ∷ ys) = go (less x y) refl (greatest_from y ys) (greatest_from x ys)
  where
    first : (g : List ℕ) (z : List ℕ) → less g x ≡ false → same_value x z ≡ true → less g z ≡ false
    first g z h e = ap (λ n. less g n) (sym (same_value-true x z e)) ∙ h

    go : (b : Bool) → less x y ≡ b → IsGreatestValue (y ∷ ys) (greatest_value y ys)
        → IsGreatestValue (x ∷ ys) (greatest_value x ys)
        → IsGreatestValue (x ∷ y ∷ ys) (greatest_value (if b then y else x) ys)
    go true e up on = record { has = or_right (same_value x g) (has_value (y ∷ ys) g) up.has; above = rest }
      where
        g : List ℕ
        g = greatest_value y ys

        rest : (z : List ℕ) → has_value (x ∷ y ∷ ys) z ≡ true → less g z ≡ false
        rest z h = elim (or_cases (same_value x z) (has_value (y ∷ ys) z) h) [
          | inl i ↦ first g z
              (not_below-along g y x (up.above y (or_left (same_value y y) (has_value ys y) (same_value-refl y)))
              (less-asym x y e)) i
          | inr i ↦ up.above z i
        ]
    go false e up on = record { has = has; above = rest }
      where
        g : List ℕ
        g = greatest_value x ys

        has : has_value (x ∷ y ∷ ys) g ≡ true
        has = elim (or_cases (same_value x g) (has_value ys g) on.has) [
          | inl i ↦ or_left (same_value x g) (has_value (y ∷ ys) g) i
          | inr i ↦ or_right (same_value x g) (has_value (y ∷ ys) g) (or_right (same_value y g) (has_value ys g) i)
        ]

        itself : less g x ≡ false
        itself = on.above x (or_left (same_value x x) (has_value ys x) (same_value-refl x))

        rest : (z : List ℕ) → has_value (x ∷ y ∷ ys) z ≡ true → less g z ≡ false
        rest z h = elim (or_cases (same_value x z) (has_value (y ∷ ys) z) h) [
          | inl i ↦ first g z itself i
          | inr i ↦ elim (or_cases (same_value y z) (has_value ys z) i) [
            | inl j ↦ ap (λ n. less g n) (sym (same_value-true y z j)) ∙ not_below-along g x y itself e
            | inr j ↦ on.above z (or_right (same_value x z) (has_value ys z) j)
          ]
        ]

pub combined_to_greatest : CombinedToGreatest
unfolding combine greatest_value
combined_to_greatest [] = refl
combined_to_greatest (x ∷ xs) = greatest_from x xs
