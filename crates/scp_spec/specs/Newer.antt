-- Which statement of a node is newer than another of the same kind.
use Rattle.std.specs.Prelude.{ℕ, Bool, false, not, ◌&&◌, List, [], ◌∷◌, Option, Some, None}
use Rattle.std.specs.List.{list_all}
use Rattle.std.specs.Option.{option_cmp}
use Rattle.std.specs.declared.cmp.Ordering.{Ordering}
use Rattle.std.specs.Ordering.{nat_cmp, on, then_cmp, is_gt}
use Rattle.std.specs.Cmp.Lexicographic.{slice_cmp}
use Rattle.scp_types.specs.declared.ballot.Ballot.{Ballot}
use Rattle.scp_types.specs.declared.statement.Statement.{Statement}
use Rattle.scp_types.specs.declared.statement.Statement.TheVariants.{Nominate, Prepare, Commit, Externalize}
use Rattle.scp_types.specs.Orders.{ballot_cmp}
use Rattle.scp_types.specs.Votes.{has_value}

-- ---- the order of ballot statements
-- the phase of a ballot statement and its fields, in the order of the message
pub record Rank : Type 0 where
  pub phase : ℕ
  pub ballot : Ballot
  pub prepared : Option Ballot
  pub counters : List ℕ

-- phases are PREPARE, COMMIT, EXTERNALIZE; a nomination has no rank
abbrev pub rank_of : Statement → Option Rank
rank_of (Nominate voted accepted) = None
rank_of (Prepare ballot prepared aborted high commit) =
    Some (record { phase = 1; ballot = ballot; prepared = prepared; counters = aborted ∷ high ∷ commit ∷ [] })
rank_of (Commit ballot prepared high commit) =
    Some (record { phase = 2; ballot = ballot; prepared = None; counters = prepared ∷ high ∷ commit ∷ [] })
rank_of (Externalize commit high) = Some (record { phase = 3; ballot = commit; prepared = None; counters = high ∷ [] })

-- by phase, then field by field; no prepared ballot is below any
abbrev pub rank_cmp : Rank → Rank → Ordering
rank_cmp =
    then_cmp (on (λ r. r.phase) nat_cmp)
    (then_cmp (on (λ r. r.ballot) ballot_cmp)
    (then_cmp (on (λ r. r.prepared) (option_cmp ballot_cmp)) (on (λ r. r.counters) (slice_cmp nat_cmp))))

-- the order of ballot statements: by phase, then by their fields in message order
abbrev pub statement_cmp : Statement → Statement → Ordering
statement_cmp = on rank_of (option_cmp rank_cmp)

-- a ballot statement comes after another one in the order of ballot statements
abbrev pub is_above : Statement → Statement → Bool
is_above s t = is_gt (statement_cmp s t)

-- ---- nominations
-- each of these values is among those
abbrev pub has_all : List (List ℕ) → List (List ℕ) → Bool
has_all those these = list_all (λ x. has_value those x) these

-- a nomination has all of these voted and accepted values, and one more
abbrev pub widens : Statement → List (List ℕ) → List (List ℕ) → Bool
widens (Nominate voted accepted) old_voted old_accepted =
    has_all voted old_voted
    && (has_all accepted old_accepted && not (has_all old_voted voted && has_all old_accepted accepted))
widens (Prepare ballot prepared aborted high commit) old_voted old_accepted = false
widens (Commit ballot prepared high commit) old_voted old_accepted = false
widens (Externalize commit high) old_voted old_accepted = false

-- ---- both kinds
-- whether the first statement, the new one, replaces the second, the old one
abbrev pub is_newer : Statement → Statement → Bool
is_newer new (Nominate voted accepted) = widens new voted accepted
is_newer new (Prepare ballot prepared aborted high commit) = is_above new (Prepare ballot prepared aborted high commit)
is_newer new (Commit ballot prepared high commit) = is_above new (Commit ballot prepared high commit)
is_newer new (Externalize commit high) = false
