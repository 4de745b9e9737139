-- The rules that an event of a node may stir.
use Rattle.std.specs.Prelude.{◌≡◌, ℕ, Bool, ◌&&◌, IfSome, IsTrue, List, Option, is_some, ⊤}
use Rattle.scp_types.specs.Statements.{Sent, kind_of}
use Rattle.scp_types.specs.declared.kind.Kind.{Kind}
use Rattle.scp_types.specs.declared.kind.Kind.TheVariants.{Nomination}
use Rattle.scp_types.specs.declared.state.Inputs.{Inputs}
use Rattle.scp_types.specs.declared.state.Votes.{Votes}
use Rattle.scp_spec.specs.Nodes.{Node, after_pass, settle, most_passes}
use Rattle.scp_spec.specs.Passes.{balloted_in, nominated_in, pass}
use Rattle.scp_spec.specs.Stirring.{ReachesSame, seen_by, settle_all, settle_ballots, settle_nominations}
use Rattle.scp_spec.specs.Views.{Seen}
use Rattle.node_view.specs.declared.configured.Configured.{Configured}
use Rattle.node_view.specs.declared.known_reach.KnownReach.{KnownReach}
use Rattle.node_core.specs.NodeParts.{SendWellFormed}
use Rattle.node_core.specs.declared.stirring.Stirred.{Stirred}
use Rattle.node_core.specs.declared.stirring.Stirred.TheVariants.{All, Ballots, Nominations}

-- what a row of a kind stirs if the nodes that are reached stay
abbrev pub stirred_by : Kind → Stirred
stirred_by Kind.Ballot = Ballots
stirred_by Nomination = Nominations

-- the part of a pass that applies these rules
abbrev pub part_of_pass : Stirred → ℕ → Seen → Inputs → Votes → Votes
part_of_pass All own seen g = pass own seen g
part_of_pass Ballots own seen g = balloted_in seen g
part_of_pass Nominations own seen g = nominated_in own seen g

-- the votes after passes that begin with these rules
abbrev pub settled_by : Stirred → ℕ → Seen → Inputs → Votes → Option Votes
settled_by All own seen g w = settle_all own seen g w
settled_by Ballots own seen g w = settle_ballots seen g w
settled_by Nominations own seen g w = settle_nominations own seen g w

-- passes that begin with some rules lead to what whole ones lead to, since the other rules have nothing to do
abbrev pub Stirs : Stirred → ℕ → Seen → Inputs → Votes → Type 0
Stirs stirred own seen g w = settled_by stirred own seen g w ≡ settle most_passes (pass own seen g) w

-- of a node that an event changed
abbrev pub StirsIn : Stirred → Node → Type 0
StirsIn stirred n = Stirs stirred n.name (seen_by n) n.inputs n.votes

-- passes may start with some rules: the votes settle, and what is sent then is well formed
pub record IsStart (stirred : Stirred) (n : Node) : Type 0 where
  pub stirs : StirsIn stirred n
  pub settles : IsTrue (is_some (settle most_passes (after_pass n) n.votes))
  pub sends : IfSome (settle most_passes (after_pass n) n.votes) SendWellFormed

-- A table that took an envelope: the envelope is of the kind of these rules, and the nodes that are reached stay. If
-- the rules are all, nothing is said.
abbrev pub IsStirred : Stirred → Configured → List Sent → Sent → List Sent → Type 0
IsStirred All c old e new = ⊤
IsStirred Ballots c old e new = (kind_of e.body ≡ Kind.Ballot) × ReachesSame c.name c.slices old new
IsStirred Nominations c old e new = (kind_of e.body ≡ Nomination) × ReachesSame c.name c.slices old new

-- what some rules go through is listed: values for nomination, ballots for balloting
abbrev pub is_listed : Stirred → KnownReach → Bool
is_listed All k = is_some k.values && is_some k.ballots
is_listed Ballots k = is_some k.ballots
is_listed Nominations k = is_some k.values
