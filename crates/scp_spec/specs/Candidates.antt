-- What the rules choose from: named ballots and commit counters, and the greatest and least of them.
use Rattle.std.specs.Prelude.{ℕ, zero, suc, ◌+◌, ◌-◌, Bool, not, ◌&&◌, nat_lt, length, take, List, [], ◌∷◌, ◌++◌, Option, Some, None, filter, flat_map, option_to_list, if◌then◌else◌}
use Rattle.std.specs.Ordering.{is_lt}
use Rattle.scp_types.specs.declared.kind.Kind.{Kind}
use Rattle.scp_types.specs.declared.ballot.Ballot.{Ballot}
use Rattle.scp_types.specs.declared.statement.Statement.{Statement}
use Rattle.scp_types.specs.declared.statement.Statement.TheVariants.{Nominate, Prepare, Commit, Externalize}
use Rattle.scp_types.specs.Orders.{bytes_cmp}
use Rattle.scp_types.specs.Nominations.{most_nominated, with_value}
use Rattle.scp_types.specs.Votes.{same_value, has_value}
use Rattle.scp_spec.specs.Views.{Seen}
use Rattle.scp_types.specs.declared.state.Votes.{Votes}
use Rattle.scp_spec.specs.States.{below, ballot_with, position}

-- ---- named ballots
-- the ballots that a statement names
abbrev pub named_by : Statement → List Ballot
named_by (Nominate voted accepted) = []
named_by (Prepare b p a h c) = b ∷ option_to_list p
named_by (Commit b p h c) = b ∷ ballot_with p b.value ∷ ballot_with h b.value ∷ []
named_by (Externalize b h) = b ∷ ballot_with h b.value ∷ []

-- the counters at which a statement speaks of commit, each with its value
abbrev pub committed_by : Statement → List Ballot
committed_by (Nominate voted accepted) = []
committed_by (Prepare b p a h c) = ballot_with c b.value ∷ ballot_with h b.value ∷ []
committed_by (Commit b p h c) = ballot_with c b.value ∷ ballot_with h b.value ∷ []
committed_by (Externalize b h) = b ∷ ballot_with h b.value ∷ []

-- the counter of the ballot is from 1 on
abbrev pub has_positive_counter : Ballot → Bool
has_positive_counter b = nat_lt 0 b.counter

-- of these statements the named ballots with a counter from 1 on
abbrev pub named_in : List Statement → List Ballot
named_in statements = filter has_positive_counter (flat_map named_by statements)

-- and the commit counters from 1 on
abbrev pub committed_in : List Statement → List Ballot
committed_in statements = filter has_positive_counter (flat_map committed_by statements)

-- the candidates: ballots in the ballot rows of reached senders and in the node's own position, and no others
unfoldable pub named_ballots : Seen → Votes → List Ballot
named_ballots seen w = named_in (seen.rows Kind.Ballot ++ option_to_list (position w))

-- the commit counters in the ballot rows of reached senders and in the node's own position, and no others
unfoldable pub commits : Seen → Votes → List Ballot
commits seen w = committed_in (seen.rows Kind.Ballot ++ option_to_list (position w))

-- the values that a nomination votes for or accepts
abbrev pub values_by : Statement → List (List ℕ)
values_by (Nominate voted accepted) = voted ++ accepted
values_by (Prepare b p a h c) = []
values_by (Commit b p h c) = []
values_by (Externalize b h) = []

-- ---- greatest and least
-- the greatest of these ballots and of the one that is there
unfoldable pub greatest : Option Ballot → List Ballot → Option Ballot
greatest best [] = best
greatest None (b ∷ bs) = greatest (Some b) bs
greatest (Some a) (b ∷ bs) = greatest (Some (if below a b then b else a)) bs

-- the least counter of this value in the list that passes the test and is below `low`; `low` itself if there is none
unfoldable pub lowest : (ℕ → Bool) → List ℕ → ℕ → List Ballot → ℕ
lowest test x low [] = low
lowest test x low (t ∷ ts) =
    lowest test x (if same_value t.value x && nat_lt t.counter low && test t.counter then t.counter else low) ts

-- the least number from n on that passes, or n + fuel if none before it does
unfoldable pub least_from : ℕ → ℕ → (ℕ → Bool) → ℕ
least_from zero n test = n
least_from (suc fuel) n test = if test n then n else least_from fuel (n + 1) test

-- the greatest of a value and more values
unfoldable pub greatest_value : List ℕ → List (List ℕ) → List ℕ
greatest_value x [] = x
greatest_value x (y ∷ ys) = greatest_value (if is_lt (bytes_cmp x y) then y else x) ys

-- what a set of values is combined to: the greatest of them
unfoldable pub combine : List (List ℕ) → Option (List ℕ)
combine [] = None
combine (x ∷ xs) = Some (greatest_value x xs)

-- ---- sets of values, ascending
-- an ascending set with more values too
abbrev pub all_with : List (List ℕ) → List (List ℕ) → List (List ℕ)
all_with [] xs = xs
all_with (y ∷ ys) xs = with_value y (all_with ys xs)

-- values as a set: ascending, none twice
abbrev pub as_set : List (List ℕ) → List (List ℕ)
as_set xs = all_with xs []

-- new values are added in byte order until there are sixteen
unfoldable pub with_up_to_sixteen : List (List ℕ) → List (List ℕ) → List (List ℕ)
with_up_to_sixteen old new =
    all_with (take (most_nominated - length old) (filter (λ x. not (has_value old x)) (as_set new))) old
