-- Searches among statements, one after another.
use Rattle.std.proofs.Common.{◌≡◌, ℕ, ◌+◌, ◌<◌, ◌≤◌, add-one, drop, get_or, length, min, option_to_list, flat_map, Bool, true, false, nat_lt, List, [], ◌∷◌, ◌++◌, Option, Some, None, filter_map, if◌then◌else◌, refl, sym, ◌∙◌, ap, arith}
use Rattle.std.specs.List.{cons_option}
use Rattle.std.proofs.Math.Seq.{drop-cons}
use Rattle.std.proofs.lemmas.List.{append-nil, drop_all}
use Rattle.scp_types.specs.declared.ballot.Ballot.{Ballot}
use Rattle.scp_types.specs.declared.statement.Statement.{Statement}
use Rattle.scp_voting.specs.Searching.{better_under, counter_by, lesser, least_above, next_counter}
use Rattle.scp_voting.proofs.Bettering.{bettered_append, bettered_none}
use Rattle.node_view.specs.Watching.{lesser_of}

-- the lesser of three
lesser_then : (k j : ℕ) (o : Option ℕ) → lesser (min k j) o ≡ lesser k (lesser j o)
lesser_then k j None = refl
lesser_then k j (Some n) = ap Some (min_then k j n)
  where
    min_then : (k j n : ℕ) → min (min k j) n ≡ min k (min j n)
    min_then k j n = omega arith

-- the counter of one statement, then those of the others
pub one_lesser : (least : Option ℕ) (n : ℕ) (s : Statement) (ss : List Statement) → lesser_of (lesser_of least (next_counter n (s ∷ []))) (next_counter n ss) ≡ lesser_of least (next_counter n (s ∷ ss))
unfolding least_above
one_lesser least n s ss = go (counter_by s)
  where
    rest : Option ℕ
    rest = next_counter n ss

    join : (o : Option ℕ) (k : ℕ) → lesser_of (lesser_of o (Some k)) rest ≡ lesser_of o (lesser k rest)
    join None k = refl
    join (Some j) k = lesser_then j k rest

    drop_it : (o : Option ℕ) → lesser_of (lesser_of o None) rest ≡ lesser_of o rest
    drop_it None = refl
    drop_it (Some j) = refl

    above : (k : ℕ) (b : Bool) → lesser_of (lesser_of least (if b then lesser k None else None)) rest ≡ lesser_of least (if b then lesser k rest else rest)
    above k true = join least k
    above k false = drop_it least

    go : (o : Option ℕ) → lesser_of (lesser_of least (least_above n (cons_option o []))) rest ≡ lesser_of least (least_above n (cons_option o (filter_map counter_by ss)))
    go None = drop_it least
    go (Some k) = above k (nat_lt n k)

-- and where there may be none
one_lesser_if : (least : Option ℕ) (n : ℕ) (o : Option Statement) (ss : List Statement) → lesser_of (lesser_of least (next_counter n (option_to_list o))) (next_counter n ss) ≡ lesser_of least (next_counter n (cons_option o ss))
unfolding least_above
one_lesser_if least n None ss = ap (λ (o : Option ℕ). lesser_of o (next_counter n ss)) (none_left least)
  where
    none_left : (o : Option ℕ) → lesser_of o None ≡ o
    none_left None = refl
    none_left (Some k) = refl
one_lesser_if least n (Some s) ss = one_lesser least n s ss

-- ---- the best ballot
-- what nobody says names none
pub nothing_said : (best bound : Option Ballot) → best ≡ better_under best bound []
nothing_said best bound = sym (bettered_none best bound)

-- what one statement names
pub one_named : (best bound : Option Ballot) (o : Option Ballot) (ts : List Ballot) → o ≡ better_under best bound ts → o ≡ better_under best bound (ts ++ [])
one_named best bound o ts is = is ∙ ap (better_under best bound) (sym (append-nil ts))

-- what one says, if it does, and then the others
best_then : (by : Statement → List Ballot) (best bound : Option Ballot) (o : Option Statement) (ss : List Statement)
    → better_under (better_under best bound (flat_map by (option_to_list o))) bound (flat_map by ss) ≡ better_under best bound (flat_map by (cons_option o ss))
best_then by best bound None ss = ap (λ (o : Option Ballot). better_under o bound (flat_map by ss)) (bettered_none best bound)
best_then by best bound (Some s) ss =
    ap (λ (ts : List Ballot). better_under (better_under best bound ts) bound (flat_map by ss)) (append-nil (by s)) ∙ bettered_append best bound (by s) (flat_map by ss)

module _ (said : ℕ → Option Statement) (us : List ℕ) (i : ℕ) where
  -- one step of the search for the best ballot among what the nodes say
  pub best_goes_on : (by : Statement → List Ballot) (best bound after all : Option Ballot) → i < length us → after ≡ better_under best bound (flat_map by (option_to_list (said (get_or us i 0))))
      → better_under best bound (flat_map by (filter_map said (drop i us))) ≡ all → better_under after bound (flat_map by (filter_map said (drop (i + 1) us))) ≡ all
  best_goes_on by best bound after all within is so_far =
      let next : drop i us ≡ get_or us i 0 ∷ drop (i + 1) us = rw add-one (drop-cons us i 0 within) in
      ap (λ (o : Option Ballot). better_under o bound (flat_map by (filter_map said (drop (i + 1) us)))) is
      ∙ best_then by best bound (said (get_or us i 0)) (filter_map said (drop (i + 1) us))
      ∙ ap (λ (ws : List ℕ). better_under best bound (flat_map by (filter_map said ws))) (sym next)
      ∙ so_far

  -- its end
  pub best_ends : (by : Statement → List Ballot) (best bound all : Option Ballot) → length us ≤ i → better_under best bound (flat_map by (filter_map said (drop i us))) ≡ all → best ≡ all
  best_ends by best bound all end so_far =
      sym (bettered_none best bound) ∙ ap (λ (ws : List ℕ). better_under best bound (flat_map by (filter_map said ws))) (sym (drop_all i us end)) ∙ so_far

  -- one step of the search for the least counter among what the nodes say
  pub least_goes_on : (least : Option ℕ) (n : ℕ) (after all : Option ℕ) → i < length us → after ≡ lesser_of least (next_counter n (option_to_list (said (get_or us i 0))))
      → lesser_of least (next_counter n (filter_map said (drop i us))) ≡ all → lesser_of after (next_counter n (filter_map said (drop (i + 1) us))) ≡ all
  least_goes_on least n after all within is so_far =
      let next : drop i us ≡ get_or us i 0 ∷ drop (i + 1) us = rw add-one (drop-cons us i 0 within) in
      ap (λ (o : Option ℕ). lesser_of o (next_counter n (filter_map said (drop (i + 1) us)))) is
      ∙ one_lesser_if least n (said (get_or us i 0)) (filter_map said (drop (i + 1) us))
      ∙ ap (λ (ws : List ℕ). lesser_of least (next_counter n (filter_map said ws))) (sym next)
      ∙ so_far

  -- its end
  pub least_ends : (least : Option ℕ) (n : ℕ) (all : Option ℕ) → length us ≤ i → lesser_of least (next_counter n (filter_map said (drop i us))) ≡ all → least ≡ all
  unfolding least_above
  least_ends least n all end so_far =
      sym (none_left least) ∙ ap (λ (ws : List ℕ). lesser_of least (next_counter n (filter_map said ws))) (sym (drop_all i us end)) ∙ so_far
    where
      none_left : (o : Option ℕ) → lesser_of o (next_counter n []) ≡ o
      none_left None = refl
      none_left (Some k) = refl
