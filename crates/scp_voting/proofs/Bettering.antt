-- Ballots that better what is there, one after another, and all at once.
use Rattle.std.proofs.Common.{◌≡◌, Bool, true, false, cond, List, [], ◌∷◌, ◌++◌, Option, Some, None, filter, refl, sym, ◌∙◌, ap}
use Rattle.scp_types.specs.declared.ballot.Ballot.{Ballot}
use Rattle.scp_spec.specs.Candidates.{greatest, has_positive_counter}
use Rattle.scp_voting.specs.Searching.{is_under, better_under}

-- one ballot more
pub greatest_then : (best : Option Ballot) (t : Ballot) (ts : List Ballot) → greatest (greatest best (t ∷ [])) ts ≡ greatest best (t ∷ ts)
unfolding greatest
greatest_then None t ts = refl
greatest_then (Some a) t ts = refl

greatest_none : (best : Option Ballot) → greatest best [] ≡ best
unfolding greatest
greatest_none None = refl
greatest_none (Some a) = refl

-- one ballot bettered first
bettered_then : (best bound : Option Ballot) (t : Ballot) (ts : List Ballot) → better_under (better_under best bound (t ∷ [])) bound ts ≡ better_under best bound (t ∷ ts)
bettered_then best bound t ts = counted (has_positive_counter t)
  where
    rest : List Ballot
    rest = filter (is_under bound) (filter has_positive_counter ts)

    under : (b : Bool) → greatest (greatest best (cond b (t ∷ []) [])) rest ≡ greatest best (cond b (t ∷ rest) rest)
    under true = greatest_then best t rest
    under false = ap (λ o. greatest o rest) (greatest_none best)

    counted : (b : Bool) → greatest (greatest best (filter (is_under bound) (cond b (t ∷ []) []))) rest ≡ greatest best (filter (is_under bound) (cond b (t ∷ filter has_positive_counter ts) (filter has_positive_counter ts)))
    counted true = under (is_under bound t)
    counted false = ap (λ o. greatest o rest) (greatest_none best)

-- nothing more
pub bettered_none : (best bound : Option Ballot) → better_under best bound [] ≡ best
bettered_none best bound = greatest_none best

-- some ballots bettered first
pub bettered_append : (best bound : Option Ballot) (ts us : List Ballot) → better_under (better_under best bound ts) bound us ≡ better_under best bound (ts ++ us)
bettered_append best bound [] us = ap (λ o. better_under o bound us) (bettered_none best bound)
bettered_append best bound (t ∷ ts) us =
    ap (λ o. better_under o bound us) (sym (bettered_then best bound t ts))
    ∙ bettered_append (better_under best bound (t ∷ [])) bound ts us
    ∙ bettered_then best bound t (ts ++ us)
