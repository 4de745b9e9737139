-- Which rules an event of a node may stir. After a ballot row by which the reach stays, nomination has nothing to do.
-- After such a nomination row balloting has something to do only if nomination confirms a value.
use Rattle.std.specs.Prelude.{◌≡◌, ℕ, List, Option, Some, if◌then◌else◌}
use Rattle.scp_types.specs.Trees.{Slices}
use Rattle.scp_types.specs.Statements.{Sent, kind_of}
use Rattle.scp_types.specs.declared.event.NodeEvent.{NodeEvent}
use Rattle.scp_types.specs.declared.kind.Kind.{Kind}
use Rattle.scp_types.specs.declared.kind.Kind.TheVariants.{Nomination}
use Rattle.scp_types.specs.declared.state.Inputs.{Inputs}
use Rattle.scp_types.specs.declared.state.Votes.{Votes}
use Rattle.scp_spec.specs.Limits.{ComesOfEvents}
use Rattle.scp_spec.specs.Nodes.{Node, change, most_passes, after_pass, settle}
use Rattle.scp_spec.specs.Passes.{balloted_in, nominated_in, pass}
use Rattle.scp_spec.specs.Reach.{reach_of}
use Rattle.scp_spec.specs.Rows.{with_row}
use Rattle.scp_spec.specs.Sameness.{same_values, same_votes}
use Rattle.scp_spec.specs.Views.{Seen, seen}

-- a node reaches the same nodes by both tables
abbrev pub ReachesSame : ℕ → Slices → List Sent → List Sent → Type 0
ReachesSame own configured old new = (u : ℕ) → reach_of own configured new u ≡ reach_of own configured old u

-- the votes after a first pass that made `after` from `before`: if it changed something, only balloting goes on
unfoldable pub settle_after : Seen → Inputs → Votes → Votes → Option Votes
settle_after seen g before after = if same_votes after before then Some after else settle 63 (balloted_in seen g) after

-- the votes after passes of which only the first has nomination
unfoldable pub settle_all : ℕ → Seen → Inputs → Votes → Option Votes
settle_all own seen g w = settle_after seen g w (pass own seen g w)

-- the votes after passes in which only balloting acts
unfoldable pub settle_ballots : Seen → Inputs → Votes → Option Votes
settle_ballots seen g w = settle_after seen g w (balloted_in seen g w)

-- the votes after nomination once; balloting follows only if nomination confirms a value
unfoldable pub settle_nominations : ℕ → Seen → Inputs → Votes → Option Votes
settle_nominations own seen g w =
    let nominated = nominated_in own seen g w in
    if same_values nominated.confirms w.confirms then Some nominated else settle_after seen g w
    (balloted_in seen g nominated)

-- what a node sees
abbrev pub seen_by : Node → Seen
seen_by n = seen n.name n.slices n.inputs.leaders n.table

-- after every event of a node that events lead to, passes with nomination only in the first come to the same votes
abbrev pub NominationRestsAfterAPass : Type 0
NominationRestsAfterAPass = (n : Node) → ComesOfEvents n → (e : NodeEvent) (m : Node) → change n e ≡ Some m
    → settle_all m.name (seen_by m) m.inputs m.votes ≡ settle most_passes (after_pass m) m.votes

-- a ballot row by which the node reaches no other nodes stirs only balloting
abbrev pub BallotRowsStirBallots : Type 0
BallotRowsStirBallots =
    (n : Node) → ComesOfEvents n → (e : Sent) → kind_of e.body ≡ Kind.Ballot
    → ReachesSame n.name n.slices n.table (with_row e n.table)
    → let m = record n { table = with_row e n.table } in
    settle_ballots (seen_by m) m.inputs m.votes ≡ settle most_passes (after_pass m) m.votes

-- a nomination row by which the node reaches no other nodes stirs nomination once, and balloting only if that confirms
-- a value
abbrev pub NominationRowsStirNomination : Type 0
NominationRowsStirNomination =
    (n : Node) → ComesOfEvents n → (e : Sent) → kind_of e.body ≡ Nomination
    → ReachesSame n.name n.slices n.table (with_row e n.table)
    → let m = record n { table = with_row e n.table } in
    settle_nominations m.name (seen_by m) m.inputs m.votes ≡ settle most_passes (after_pass m) m.votes
