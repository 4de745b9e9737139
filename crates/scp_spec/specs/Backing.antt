-- What the rows of a table say to one node: whose slices are known, and whose statements pass a test.
use Rattle.std.specs.Prelude.{ℕ, Bool, false, ◌==◌, List, Option, Some, None, if◌then◌else◌, option_map}
use Rattle.scp_types.specs.Trees.{Slices}
use Rattle.scp_types.specs.declared.ballot.Ballot.{Ballot}
use Rattle.scp_types.specs.declared.kind.Kind.{Kind}
use Rattle.scp_types.specs.declared.statement.Statement.{Statement}
use Rattle.scp_types.specs.Statements.{Sent}
use Rattle.scp_types.specs.Votes.{votes_or_accepts_prepare}
use Rattle.scp_spec.specs.Sets.{Names}
use Rattle.scp_spec.specs.Rows.{row}

-- a node's own slices are the configured ones, another's those of its row of the kind; another without a row has none
abbrev pub slices_by : ℕ → Slices → List Sent → Kind → ℕ → Option Slices
slices_by own configured table kind u =
    if own == u then Some configured else option_map (λ e. e.slices) (row table u kind)

abbrev pub is_passed : (Statement → Bool) → Option Sent → Bool
is_passed test None = false
is_passed test (Some e) = test e.body

-- the senders whose row of the kind passes a test
abbrev pub passing_senders : List Sent → Kind → (Statement → Bool) → Names
passing_senders table kind test u = is_passed test (row table u kind)

-- the senders whose ballot row votes for or accepts that the ballot is prepared
abbrev pub backing_prepare : List Sent → Ballot → Names
backing_prepare table b = passing_senders table Kind.Ballot (λ s. votes_or_accepts_prepare s b)
