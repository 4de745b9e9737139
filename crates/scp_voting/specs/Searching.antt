-- What a search among the rows of a table asks for: the next candidate from a bound on.
use Rattle.std.specs.Prelude.{◌≡◌, ℕ, nat_lt, min, Bool, true, List, [], ◌∷◌, Option, Some, None, filter, filter_map, if◌then◌else◌}
use Rattle.std.specs.List.{AllByRecursion}
use Rattle.scp_types.specs.declared.ballot.Ballot.{Ballot}
use Rattle.scp_types.specs.declared.kind.Kind.{Kind}
use Rattle.scp_types.specs.declared.statement.Statement.{Statement}
use Rattle.scp_types.specs.declared.statement.Statement.TheVariants.{Nominate, Prepare, Commit, Externalize}
use Rattle.scp_spec.specs.States.{below}
use Rattle.scp_spec.specs.Candidates.{greatest, has_positive_counter}
use Rattle.scp_spec.specs.Views.{Seen}

-- the ballot is below the bound, if there is one
abbrev pub is_under : Option Ballot → Ballot → Bool
is_under None t = true
is_under (Some bound) t = below t bound

-- the greatest of these ballots that is below the bound
abbrev pub next_under : Option Ballot → List Ballot → Option Ballot
next_under bound ts = greatest None (filter (is_under bound) ts)

-- the greatest of what is there and of those of these ballots that are below the bound, with a counter from 1 on
abbrev pub better_under : Option Ballot → Option Ballot → List Ballot → Option Ballot
better_under best bound ts = greatest best (filter (is_under bound) (filter has_positive_counter ts))

-- the counter of a ballot statement; that of an EXTERNALIZE counts as infinite
abbrev pub counter_by : Statement → Option ℕ
counter_by (Nominate voted accepted) = None
counter_by (Prepare b p a h c) = Some b.counter
counter_by (Commit b p h c) = Some b.counter
counter_by (Externalize b h) = None

-- the lesser of a number and of what is there
abbrev pub lesser : ℕ → Option ℕ → Option ℕ
lesser k None = Some k
lesser k (Some n) = Some (min k n)

-- the least of these numbers that is above n
unfoldable pub least_above : ℕ → List ℕ → Option ℕ
least_above n [] = None
least_above n (k ∷ ks) = if nat_lt n k then lesser k (least_above n ks) else least_above n ks

-- the least counter above n that one of the statements has, if there is one; an EXTERNALIZE has none
abbrev pub next_counter : ℕ → List Statement → Option ℕ
next_counter n statements = least_above n (filter_map counter_by statements)

-- the blocking test gets one answer for questions that agree on the rows of the others that are reached
pub record IsHonest (seen : Seen) : Type 0 where
  pub blocking : (kind : Kind) (own : Bool) (test other : Statement → Bool)
      → AllByRecursion (λ s. test s ≡ other s) (seen.rows kind)
      → seen.blocking kind own test ≡ seen.blocking kind own other
