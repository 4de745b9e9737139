-- Sets of values that are gathered from the last value back to the first.
use Rattle.std.proofs.Common.{◌≡◌, ◌≤◌, ◌<◌, ◌+◌, ◌-◌, ℕ, List, [], ◌∷◌, ◌++◌, Option, Some, None, filter_map, flat_map, get_or, length, length-take, option_to_list, take, refl, sym, ◌∙◌, ap, arith}
use Rattle.std.specs.List.{cons_option}
use Rattle.std.proofs.lemmas.List.{take_more}
use Rattle.scp_types.specs.declared.statement.Statement.{Statement}
use Rattle.scp_spec.specs.Candidates.{all_with, values_by}
use Rattle.scp_spec.proofs.Nominating.ValueSets as ValueSets
use Rattle.scp_spec.proofs.Nominating.ValueSets.{split_last}

-- the later values first
pub all_with_append : (ys zs xs : List (List ℕ)) → all_with (ys ++ zs) xs ≡ all_with ys (all_with zs xs)
all_with_append = ValueSets.all_with_append

append_none : (xs : List (List ℕ)) → xs ++ [] ≡ xs
append_none [] = refl
append_none (x ∷ xs) = ap (λ (ys : List (List ℕ)). x ∷ ys) (append_none xs)

-- the values of one statement, where there is one
pub one_said : (s : Statement) (xs : List (List ℕ)) → all_with (values_by s) xs ≡ all_with (flat_map values_by (s ∷ [])) xs
one_said s xs = ap (λ (ys : List (List ℕ)). all_with ys xs) (sym (append_none (values_by s)))

module _ (said : ℕ → Option Statement) where
  -- what the last of these nodes says is added first
  last_said : (us : List ℕ) (u : ℕ) (xs : List (List ℕ)) → all_with (flat_map values_by (filter_map said (us ++ u ∷ []))) xs ≡ all_with (flat_map values_by (filter_map said us)) (all_with (flat_map values_by (option_to_list (said u))) xs)
  last_said [] u xs = go (said u)
    where
      go : (o : Option Statement) → all_with (flat_map values_by (cons_option o [])) xs ≡ all_with (flat_map values_by (option_to_list o)) xs
      go None = refl
      go (Some s) = refl
  last_said (w ∷ us) u xs = go (said w) (last_said us u xs)
    where
      more : List Statement
      more = filter_map said (us ++ u ∷ [])

      first : List (List ℕ)
      first = all_with (flat_map values_by (option_to_list (said u))) xs

      go : (o : Option Statement) → all_with (flat_map values_by more) xs ≡ all_with (flat_map values_by (filter_map said us)) first
          → all_with (flat_map values_by (cons_option o more)) xs ≡ all_with (flat_map values_by (cons_option o (filter_map said us))) first
      go None e = e
      go (Some s) e =
          all_with_append (values_by s) (flat_map values_by more) xs
          ∙ ap (all_with (values_by s)) e
          ∙ sym (all_with_append (values_by s) (flat_map values_by (filter_map said us)) first)

  -- the last node, and then all before it
  pub values_before : (us : List ℕ) (u : ℕ) (values after all : List (List ℕ)) → after ≡ all_with (flat_map values_by (option_to_list (said u))) values
      → all_with (flat_map values_by (filter_map said (us ++ u ∷ []))) values ≡ all → all_with (flat_map values_by (filter_map said us)) after ≡ all
  values_before us u values after all inserted so_far =
      ap (all_with (flat_map values_by (filter_map said us))) inserted ∙ sym (last_said us u values) ∙ so_far

  -- the node before a place, and then those before it
  pub place_before : (us : List ℕ) (p : ℕ) (values after all : List (List ℕ)) → 0 < p → p ≤ length us → after ≡ all_with (flat_map values_by (option_to_list (said (get_or us (p - 1) 0)))) values
      → all_with (flat_map values_by (filter_map said (take p us))) values ≡ all → all_with (flat_map values_by (filter_map said (take (p - 1) us))) after ≡ all
  place_before us p values after all some within inserted so_far =
      let one : p - 1 + 1 ≡ p = omega (arith, some) in
      let whole : take (p - 1) us ++ get_or us (p - 1) 0 ∷ [] ≡ take p us = sym (take_more us (p - 1) 0 (omega (arith, some, within))) ∙ ap (λ n. take n us) one in
      values_before (take (p - 1) us) (get_or us (p - 1) 0) values after all inserted
      (ap (λ ws. all_with (flat_map values_by (filter_map said ws)) values) whole ∙ so_far)

  -- the last node of those that are left, and then all before it
  pub node_before : (left more : List ℕ) (u : ℕ) (values after all : List (List ℕ)) → 0 < length left → u ≡ get_or left (length left - 1) u → length left ≤ length more
      → after ≡ all_with (flat_map values_by (option_to_list (said u))) values → all_with (flat_map values_by (filter_map said left)) values ≡ all
      → (length (take (length left - 1) left) ≤ length more) × (all_with (flat_map values_by (filter_map said (take (length left - 1) left))) after ≡ all)
  node_before left more u values after all some is within inserted so_far = (
    omega (arith, length-take (length left - 1) left, within),
    values_before (take (length left - 1) left) u values after all inserted
        (ap (λ ws. all_with (flat_map values_by (filter_map said ws)) values) (split_last left u some is) ∙ so_far),
  )
