-- What a statement votes for and what it accepts: prepare ballot by ballot, commit counter by counter, nominate value
-- by value.
use Rattle.std.specs.Prelude.{◌≡◌, ℕ, ◌≤◌, List, Bool, true, false, ◌&&◌, ◌||◌, ◌==◌, not, nat_le, nat_lt, Option, Some, None}
use Rattle.std.specs.List.{list_any}
pub use Rattle.scp_types.specs.Nominations.{same_value}
use Rattle.scp_types.specs.declared.ballot.Ballot.{Ballot}
use Rattle.scp_types.specs.declared.statement.Statement.{Statement}
use Rattle.scp_types.specs.declared.statement.Statement.TheVariants.{Nominate, Prepare, Commit, Externalize}

-- ---- prepare
-- prepare of a ballot aborts all lower ones of other values, so it implies prepare of the lower ones of its own
abbrev pub implies_prepare : Ballot → Ballot → Bool
implies_prepare greater b = same_value greater.value b.value && nat_le b.counter greater.counter

abbrev pub implied_by_known : Option Ballot → Ballot → Bool
implied_by_known None b = false
implied_by_known (Some p) b = implies_prepare p b

abbrev pub votes_prepare : Statement → Ballot → Bool
votes_prepare (Nominate voted accepted) b = false
votes_prepare (Prepare ballot p a h c) b = implies_prepare ballot b
votes_prepare (Commit ballot p h c) b = same_value ballot.value b.value
votes_prepare (Externalize commit h) b = false

-- a statement accepts that a ballot is prepared; ballots below its aborted counter are, whatever their value
abbrev pub accepts_prepare : Statement → Ballot → Bool
accepts_prepare (Nominate voted accepted) b = false
accepts_prepare (Prepare ballot p a h c) b = implied_by_known p b || nat_lt b.counter a
accepts_prepare (Commit ballot p h c) b = same_value ballot.value b.value && nat_le b.counter p
accepts_prepare (Externalize commit h) b = same_value commit.value b.value

-- a statement votes for or accepts that a ballot is prepared
abbrev pub votes_or_accepts_prepare : Statement → Ballot → Bool
votes_or_accepts_prepare s b = votes_prepare s b || accepts_prepare s b

-- ---- commit, at one counter of a value
abbrev pub votes_commit_at : Statement → List ℕ → ℕ → Bool
votes_commit_at (Nominate voted accepted) x n = false
votes_commit_at (Prepare ballot p a h c) x n = not (c == 0) && (same_value ballot.value x && (nat_le c n && nat_le n h))
votes_commit_at (Commit ballot p h c) x n = same_value ballot.value x && nat_le c n
votes_commit_at (Externalize commit h) x n = false

abbrev pub accepts_commit_at : Statement → List ℕ → ℕ → Bool
accepts_commit_at (Nominate voted accepted) x n = false
accepts_commit_at (Prepare ballot p a h c) x n = false
accepts_commit_at (Commit ballot p h c) x n = same_value ballot.value x && (nat_le c n && nat_le n h)
accepts_commit_at (Externalize commit h) x n = same_value commit.value x && nat_le commit.counter n

abbrev pub votes_or_accepts_commit_at : Statement → List ℕ → ℕ → Bool
votes_or_accepts_commit_at s x n = votes_commit_at s x n || accepts_commit_at s x n

-- a statement votes for or accepts commit of a value on the whole of an interval: at each of its counters
abbrev pub VotesOrAcceptsCommit : Statement → List ℕ → ℕ → ℕ → Type 0
VotesOrAcceptsCommit s x low high = (n : ℕ) → low ≤ n → n ≤ high → votes_or_accepts_commit_at s x n ≡ true

-- a statement accepts commit of a value on the whole of an interval: at each of its counters
abbrev pub AcceptsCommit : Statement → List ℕ → ℕ → ℕ → Type 0
AcceptsCommit s x low high = (n : ℕ) → low ≤ n → n ≤ high → accepts_commit_at s x n ≡ true

-- ---- nominate
-- a value is one of these
abbrev pub has_value : List (List ℕ) → List ℕ → Bool
has_value values x = list_any (λ y. same_value y x) values

abbrev pub votes_nominate : Statement → List ℕ → Bool
votes_nominate (Nominate voted accepted) x = has_value voted x
votes_nominate (Prepare b p a h c) x = false
votes_nominate (Commit b p h c) x = false
votes_nominate (Externalize b h) x = false

-- a statement accepts a value as nominated
abbrev pub accepts_nominate : Statement → List ℕ → Bool
accepts_nominate (Nominate voted accepted) x = has_value accepted x
accepts_nominate (Prepare b p a h c) x = false
accepts_nominate (Commit b p h c) x = false
accepts_nominate (Externalize b h) x = false

-- a statement votes for a value as nominated, or accepts it
abbrev pub votes_or_accepts_nominate : Statement → List ℕ → Bool
votes_or_accepts_nominate s x = votes_nominate s x || accepts_nominate s x

-- ---- the two ends of an interval, as tests
-- a statement accepts commit of a value on an interval, as a test of its two ends
abbrev pub accepts_ends : Statement → List ℕ → ℕ → ℕ → Bool
accepts_ends (Nominate voted accepted) x low high = false
accepts_ends (Prepare ballot p a h c) x low high = false
accepts_ends (Commit ballot p h c) x low high = same_value ballot.value x && (nat_le c low && nat_le high h)
accepts_ends (Externalize commit h) x low high = same_value commit.value x && nat_le commit.counter low

-- a statement votes for or accepts commit of a value on an interval, as a test of its two ends
abbrev pub votes_or_accepts_ends : Statement → List ℕ → ℕ → ℕ → Bool
votes_or_accepts_ends (Nominate voted accepted) x low high = false
votes_or_accepts_ends (Prepare ballot p a h c) x low high =
    not (c == 0) && (same_value ballot.value x && (nat_le c low && nat_le high h))
votes_or_accepts_ends (Commit ballot p h c) x low high = same_value ballot.value x && nat_le c low
votes_or_accepts_ends (Externalize commit h) x low high = same_value commit.value x && nat_le commit.counter low
