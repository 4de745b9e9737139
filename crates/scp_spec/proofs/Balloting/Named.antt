-- The ballots that rows and the own position name: which are candidates. `Sending` stands on it.
use Rattle.std.proofs.Common.{◌≡◌, true, nat_lt, List, ◌++◌, filter, flat_map, option_to_list, ◌⊎◌}
use Rattle.scp_types.specs.declared.ballot.Ballot.{Ballot}
use Rattle.scp_types.specs.declared.kind.Kind.{Kind}
use Rattle.scp_types.specs.declared.statement.Statement.{Statement}
use Rattle.scp_spec.specs.Views.{Seen}
use Rattle.scp_types.specs.declared.state.Votes.{Votes}
use Rattle.scp_spec.specs.States.{position}
use Rattle.scp_spec.specs.Candidates.{has_positive_counter, named_by, committed_by, named_ballots, commits}
use Rattle.scp_spec.specs.Extremes.{IsIn}
use Rattle.scp_spec.proofs.Ballots.Above.{in-filter, from-filter, flat_map-append, flat_map-left, flat_map-right}

-- the ballots that the rows name
abbrev pub row_named : Seen → List Ballot
row_named s = flat_map named_by (s.rows Kind.Ballot)

abbrev pub row_commits : Seen → List Ballot
row_commits s = flat_map committed_by (s.rows Kind.Ballot)

abbrev pub own_named : Votes → List Ballot
own_named w = flat_map named_by (option_to_list (position w))

abbrev pub own_commits : Votes → List Ballot
own_commits w = flat_map committed_by (option_to_list (position w))

-- what some statements name by rows and position, from counter 1 on, a row or the own position names
module _ (by : Statement → List Ballot) (rows own : List Statement) (t : Ballot) where
  parts : IsIn t (filter has_positive_counter (flat_map by (rows ++ own)))
      → (nat_lt 0 t.counter ≡ true) × (IsIn t (flat_map by rows) ⊎ IsIn t (flat_map by own))
  parts i = let r =
      from-filter has_positive_counter t (flat_map by (rows ++ own)) i in (r.1, flat_map-append by rows own t r.0)

  of_row : nat_lt 0 t.counter ≡ true → IsIn t (flat_map by rows)
      → IsIn t (filter has_positive_counter (flat_map by (rows ++ own)))
  of_row c i = in-filter has_positive_counter t (flat_map by (rows ++ own)) (flat_map-left by rows own t i) c

  of_own : nat_lt 0 t.counter ≡ true → IsIn t (flat_map by own)
      → IsIn t (filter has_positive_counter (flat_map by (rows ++ own)))
  of_own c i = in-filter has_positive_counter t (flat_map by (rows ++ own)) (flat_map-right by rows own t i) c

module _ (s : Seen) (w : Votes) (t : Ballot) where
  pub named-parts : IsIn t (named_ballots s w) → (nat_lt 0 t.counter ≡ true) × (IsIn t (row_named s) ⊎ IsIn t (own_named w))
  unfolding named_ballots
  named-parts i = parts named_by (s.rows Kind.Ballot) (option_to_list (position w)) t i

  pub named-row : nat_lt 0 t.counter ≡ true → IsIn t (row_named s) → IsIn t (named_ballots s w)
  unfolding named_ballots
  named-row c i = of_row named_by (s.rows Kind.Ballot) (option_to_list (position w)) t c i

  pub named-own : nat_lt 0 t.counter ≡ true → IsIn t (own_named w) → IsIn t (named_ballots s w)
  unfolding named_ballots
  named-own c i = of_own named_by (s.rows Kind.Ballot) (option_to_list (position w)) t c i

  pub commits-parts : IsIn t (commits s w)
      → (nat_lt 0 t.counter ≡ true) × (IsIn t (row_commits s) ⊎ IsIn t (own_commits w))
  unfolding commits
  commits-parts i = parts committed_by (s.rows Kind.Ballot) (option_to_list (position w)) t i

  pub commits-row : nat_lt 0 t.counter ≡ true → IsIn t (row_commits s) → IsIn t (commits s w)
  unfolding commits
  commits-row c i = of_row committed_by (s.rows Kind.Ballot) (option_to_list (position w)) t c i
