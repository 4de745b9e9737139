-- A node of the definitions, from the parts of the one here.
use Rattle.std.specs.Prelude.{◌≡◌, ℕ, ◌++◌, ◌∷◌, [], List, Option, Some, None, IfSome, option_map, if◌then◌else◌}
use Rattle.scp_types.specs.Statements.{Sent, IsEnvelope, IsWellFormed}
use Rattle.scp_types.specs.declared.event.NodeEvent.{NodeEvent}
use Rattle.scp_types.specs.declared.event.Out.{Out}
use Rattle.scp_types.specs.declared.event.Out.TheVariants.{Emit}
use Rattle.scp_types.specs.declared.state.Inputs.{Inputs}
use Rattle.scp_types.specs.declared.state.Votes.{Votes}
use Rattle.scp_types.specs.declared.statement.Statement.{Statement}
use Rattle.scp_spec.specs.Leaders.{leader}
use Rattle.scp_spec.specs.Sameness.{same_sent}
use Rattle.scp_spec.specs.States.{sent_nomination, sent_vote}
use Rattle.scp_spec.specs.Nodes.{Node, change}
use Rattle.scp_spec.specs.Limits.{ComesOfEvents}
use Rattle.node_view.specs.declared.configured.Configured.{Configured}
use Rattle.node_core.specs.declared.changes.Changed.{Changed}

-- a node of the definitions from the parts of the one in code: who it is, its inputs, its votes, and the table
abbrev pub node_from_parts : Configured → Inputs → Votes → List Sent → Node
node_from_parts c inputs votes table =
    record { name = c.name; slot = c.slot; slices = c.slices; inputs = inputs; votes = votes; table = table }

-- the inputs of a node as a round begins with its leader
abbrev pub inputs_in_round : Configured → Inputs → ℕ → Inputs
inputs_in_round c inputs round =
    record inputs { round = round; leaders = inputs.leaders ++ leader c.slot round c.name c.slices ∷ [] }

-- a statement as the node sends it: an envelope with its name, slot and slices
abbrev pub sent_by : Configured → Statement → Sent
sent_by c statement = record { sender = c.name; slot = c.slot; slices = c.slices; body = statement }

-- what the node emits: the statement that is sent now, if there is one and another or none would have been sent before
abbrev pub emitted_by : Configured → Option Statement → Option Statement → List Out
emitted_by c old None = []
emitted_by c old (Some s) = if same_sent old (Some s) then [] else Emit (sent_by c s) ∷ []

-- what these votes send is well formed
abbrev pub SendWellFormed : Votes → Type 0
SendWellFormed w = IfSome (sent_nomination w) IsWellFormed × IfSome (sent_vote w) IsWellFormed

-- the node with these inputs and votes
abbrev pub with_changed : Node → Changed → Node
with_changed n d = record n { inputs = d.inputs; votes = d.votes }

-- the event's own change sets these inputs and votes; none if it changes nothing
abbrev pub ChangesTo : Node → NodeEvent → Option Changed → Type 0
ChangesTo n event o = change n event ≡ option_map (with_changed n) o

-- events led to a node of which some event's own change makes this one: passes are still to come
pub record IsBeforePasses (new : Node) : Type 0 where
  pub before : Node
  pub event : NodeEvent
  pub reached : ComesOfEvents before
  pub is : change before event ≡ Some new

-- the envelope is the node's own: its name, its slot and the slices that it has after the event; and it is well formed
pub record IsSentBy (n : Node) (e : Sent) : Type 0 where
  pub sender : e.sender ≡ n.name
  pub slot : e.slot ≡ n.slot
  pub slices : e.slices ≡ n.slices
  pub envelope : IsEnvelope e
