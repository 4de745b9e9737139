-- Beyond the rules: no event meets the limit of passes, and what else holds of each node that events lead to.
use Rattle.scp_types.specs.declared.event.NodeEvent.{NodeEvent}
use Rattle.std.specs.Prelude.{◌≡◌, ℕ, ◌≤◌, List, IsTrue, IfSome, Some, is_some}
use Rattle.std.specs.List.{AllByRecursion}
use Rattle.scp_types.specs.Trees.{Slices}
use Rattle.scp_types.specs.Statements.{IsWellFormed}
use Rattle.scp_spec.specs.Nodes.{Node, fresh, after_pass, settle, most_passes, change, step, Calm}
use Rattle.scp_spec.specs.States.{counter_of, sent_nomination, sent_vote}
use Rattle.scp_spec.specs.Networks.{Slot}
use Rattle.scp_spec.specs.Hosts.{Entry, Config}
use Rattle.scp_spec.specs.Runs.{state_of}

-- a node that events lead to
pub data ComesOfEvents : Node → Type 0 where
  begin : (slot name : ℕ) (configured : Slices) → ComesOfEvents (fresh slot name configured)
  next : {n : Node} → ComesOfEvents n → (e : NodeEvent) → ComesOfEvents (step n e).0

-- each event that changes a node that events lead to settles within `passes` passes, the last of which changes nothing
abbrev pub SettlesWithin : ℕ → Type 0
SettlesWithin passes =
    (n : Node) → ComesOfEvents n → (e : NodeEvent) (m : Node) → change n e ≡ Some m
    → IsTrue (is_some (settle passes (after_pass m) m.votes))

-- no event of a node that events lead to is undone by the limit of passes
abbrev pub NeverLimited : Type 0
NeverLimited = SettlesWithin most_passes

-- four passes are enough after each event of a node that events lead to
abbrev pub WithinFour : Type 0
WithinFour = SettlesWithin 4

-- to each node at each open slot of a network events lead
abbrev pub AllComeOfEvents : List Slot → Type 0
AllComeOfEvents slots = AllByRecursion (λ s. AllByRecursion (λ p. ComesOfEvents p.node) s.instances) slots

-- after any entries, events led to each node of each open slot, of whatever configuration
abbrev pub RunsComeOfEvents : Type 0
RunsComeOfEvents = (config : Config) (before : List Entry) → AllComeOfEvents (state_of config before).slots

-- one more pass of a node that events lead to would change nothing
abbrev pub NodesAreCalm : Type 0
NodesAreCalm = (n : Node) → ComesOfEvents n → Calm n

-- of a node that events lead to no more ballot timers have fired than its ballot's counter says
abbrev pub TimersAreCounted : Type 0
TimersAreCounted = (n : Node) → ComesOfEvents n → n.inputs.ballot_timeouts ≤ counter_of n.votes.ballot

-- the nomination and the ballot statement that a node sends to which events lead are well formed
abbrev pub SendsWellFormed : Type 0
SendsWellFormed =
    (n : Node) → ComesOfEvents n → IfSome (sent_nomination n.votes) IsWellFormed
    × IfSome (sent_vote n.votes) IsWellFormed
