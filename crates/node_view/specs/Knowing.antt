-- What a node knows of the nodes that it reaches, from one event to the next.
use Rattle.std.specs.Arc.{arc_slice_items}
use Rattle.std.specs.Prelude.{◌≡◌, ℕ, Bool, not, ◌&&◌, List, Option, IfSome, IsTrue, ◌==◌, option_map}
use Rattle.scp_types.specs.Trees.{Slices}
use Rattle.scp_types.specs.declared.ballot.Ballot.{Ballot}
use Rattle.scp_types.specs.Statements.{Sent, kind_of}
use Rattle.scp_types.specs.declared.kind.Kind.{Kind}
use Rattle.scp_types.specs.declared.kind.Kind.TheVariants.{Nomination}
use Rattle.scp_types.specs.declared.statement.Statement.{Statement}
use Rattle.scp_spec.specs.Candidates.{committed_in, named_in}
use Rattle.scp_spec.specs.Rows.{is_kind, is_taken, row, with_row}
use Rattle.scp_spec.specs.Sets.{among}
use Rattle.scp_voting.specs.declared.mention.Mention.{Mention}
use Rattle.scp_voting.specs.declared.mention.Mention.TheVariants.{Committed, Named}
use Rattle.node_view.specs.Grouping.{AreGrouped}
use Rattle.node_view.specs.Listing.{AreListed, FindsAsAmong}
use Rattle.node_view.specs.Regions.{IsRegion}
use Rattle.node_view.specs.Watching.{rows_of_others, values_in}
use Rattle.node_view.specs.declared.known_reach.KnownReach.{KnownReach}
use Rattle.node_view.specs.declared.reached_ballots.ReachedBallots.{ReachedBallots}
use Rattle.node_view.specs.declared.reached_values.ReachedValues.{ReachedValues}

-- listed are the ballots that the ballot rows of the others of these nodes name, and those at whose counters these rows
-- speak of commit, and which of these rows say the same, if that is known
pub record AreBallotsOf (own : ℕ) (table : List Sent) (nodes : List ℕ) (b : ReachedBallots) : Type 0 where
  pub named : AreListed b.named (named_in (rows_of_others own Kind.Ballot table nodes))
  pub committed : AreListed b.committed (committed_in (rows_of_others own Kind.Ballot table nodes))
  pub alike : IfSome b.alike (AreGrouped own (record { nodes = nodes; table = table; kind = Kind.Ballot }))

-- listed are the values that the nomination rows of the others of these nodes vote for or accept, as a set, and which
-- of these rows say the same, if that is known
pub record AreValuesOf (own : ℕ) (table : List Sent) (nodes : List ℕ) (v : ReachedValues) : Type 0 where
  pub values : v.values ≡ values_in (rows_of_others own Nomination table nodes)
  pub alike : IfSome v.alike (AreGrouped own (record { nodes = nodes; table = table; kind = Nomination }))

-- the ballots that are listed of those of which rows speak in one way
abbrev pub listed_as : Mention → ReachedBallots → List Ballot
listed_as Named b = b.named
listed_as Committed b = b.committed

-- each search among listed ballots finds what it would find among those that the rows of a kind speak of
abbrev pub AreSearched : ℕ → Kind → List Sent → List ℕ → ReachedBallots → Type 0
AreSearched own kind table nodes b =
    FindsAsAmong b.named (named_in (rows_of_others own kind table nodes))
    × FindsAsAmong b.committed (committed_in (rows_of_others own kind table nodes))

-- what is known of a node's reach: its region, and its ballots and nominated values where they are listed
pub record IsKnown (own : ℕ) (configured : Slices) (table : List Sent) (k : KnownReach) : Type 0 where
  pub region : IsRegion own configured table k.region
  pub ballots : IfSome k.ballots (AreBallotsOf own table (arc_slice_items k.region.nodes))
  pub values : IfSome k.values (AreValuesOf own table (arc_slice_items k.region.nodes))

-- a table took an envelope, newer than its sender's row of its kind: its row is this one now, and there was this one
-- before
pub record IsTaken (old new : List Sent) (e : Sent) (before : Option Sent) : Type 0 where
  pub now : new ≡ with_row e old
  pub replaced : before ≡ row old e.sender (kind_of e.body)
  pub newer : IsTrue (is_taken old e)

-- whether an envelope is of one of these nodes, another than this one
abbrev pub is_of_another : ℕ → List ℕ → Sent → Bool
is_of_another own nodes e = not (own == e.sender) && among nodes e.sender

-- an envelope is of one of these nodes, another than this one, and of one kind
abbrev pub is_heard : Kind → ℕ → List ℕ → Sent → Bool
is_heard kind own nodes e = is_kind kind (kind_of e.body) && is_of_another own nodes e

-- a table took an envelope of ballots of another of the nodes, and this is what the row before it said
pub record IsHeard (own : ℕ) (nodes : List ℕ) (old new : List Sent) (e : Sent) (before : Option Statement) : Type 0 where
  pub row : Option Sent
  pub heard : IsTrue (is_heard Kind.Ballot own nodes e)
  pub taken : IsTaken old new e row
  pub said : option_map (λ x. x.body) row ≡ before
