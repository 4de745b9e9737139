-- The candidates of rows and of one statement more.
use Rattle.std.proofs.Common.{◌≡◌, List, [], ◌∷◌, ◌++◌, filter, flat_map, Option, None, refl, sym, ◌∙◌, ap}
use Rattle.scp_types.specs.declared.ballot.Ballot.{Ballot}
use Rattle.scp_types.specs.declared.statement.Statement.{Statement}
use Rattle.scp_spec.specs.Candidates.{has_positive_counter}
use Rattle.scp_voting.specs.Searching.{next_under, better_under}
use Rattle.scp_voting.proofs.Bettering.{bettered_append}

-- what all statements give, and the last one
flat_map-last : (f : Statement → List Ballot) (ss : List Statement) (t : Statement) → flat_map f (ss ++ t ∷ []) ≡ flat_map f ss ++ f t
flat_map-last f [] t = last (f t)
  where
    last : (xs : List Ballot) → xs ++ [] ≡ xs
    last [] = refl
    last (x ∷ xs) = ap (λ zs. x ∷ zs) (last xs)
flat_map-last f (s ∷ ss) t = ap (λ zs. f s ++ zs) (flat_map-last f ss t) ∙ assoc (f s) (flat_map f ss) (f t)
  where
    assoc : (xs ys zs : List Ballot) → xs ++ (ys ++ zs) ≡ (xs ++ ys) ++ zs
    assoc [] ys zs = refl
    assoc (x ∷ xs) ys zs = ap (λ ws. x ∷ ws) (assoc xs ys zs)

-- the next candidate of the rows and of one statement more
pub next_with : (f : Statement → List Ballot) (bound : Option Ballot) (ss : List Statement) (t : Statement)
    → better_under (next_under bound (filter has_positive_counter (flat_map f ss))) bound (f t) ≡ next_under bound (filter has_positive_counter (flat_map f (ss ++ t ∷ [])))
next_with f bound ss t = bettered_append None bound (flat_map f ss) (f t) ∙ ap (λ xs. next_under bound (filter has_positive_counter xs)) (sym (flat_map-last f ss t))
