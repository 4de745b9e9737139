-- What new slices make of a node.
use Rattle.std.specs.Prelude.{◌≡◌, ℕ, ◌&&◌, ◌==◌, List, [], ◌∷◌, Some, if◌then◌else◌}
use Rattle.scp_types.specs.Trees.{Slices}
use Rattle.scp_types.specs.declared.event.NodeEvent.{NodeEvent}
use Rattle.scp_types.specs.declared.event.NodeEvent.TheVariants.{Propose, Take, NominationTimer, BallotTimer, Reslice}
use Rattle.scp_spec.specs.Nodes.{Node, step}
use Rattle.scp_spec.specs.Limits.{ComesOfEvents}
use Rattle.scp_spec.specs.Networks.{Step, Instance, slices_of, instances_at, node_where_open}
use Rattle.scp_spec.specs.Networks.Step.{Opens, Closes, Proposes, Delivers, Hears, NominationTimerFires, BallotTimerFires, Reslices}
use Rattle.scp_spec.specs.Hosts.{Config, Entry}
use Rattle.scp_spec.specs.Runs.{IsRun, state_of}

-- the slices after an event: the new ones if it gives any, else those before it
abbrev pub slices_after : NodeEvent → Slices → Slices
slices_after (Propose x) q = q
slices_after (Take e) q = q
slices_after (NominationTimer r) q = q
slices_after (BallotTimer c) q = q
slices_after (Reslice new) q = new

-- A node that events lead to has the slices that were given last. No event is undone by the limit of passes, so new
-- slices are in force after the event that gives them.
abbrev pub SlicesFollowEvents : Type 0
SlicesFollowEvents = (n : Node) → ComesOfEvents n → (e : NodeEvent) → (step n e).0.slices ≡ slices_after e n.slices

-- name and slot are as they were, and so are the table and the inputs, the leaders among them
pub record IsElseSame (old new : Node) : Type 0 where
  pub name : new.name ≡ old.name
  pub slot : new.slot ≡ old.slot
  pub inputs : new.inputs ≡ old.inputs
  pub table : new.table ≡ old.table

-- beside the slices, new ones change only the votes
abbrev pub ReslicesChangeVotes : Type 0
ReslicesChangeVotes = (n : Node) (q : Slices) → IsElseSame n (step n (Reslice q)).0

-- slices that a node has already change nothing of it, and it gives nothing out
abbrev pub SameSlicesAreQuiet : Type 0
SameSlicesAreQuiet = (n : Node) → ComesOfEvents n → step n (Reslice n.slices) ≡ (n, [])

-- ---- over a run
-- The slices of a node at a slot after one more applied event. They are the new ones if it gives them to the node
-- there, and the configured ones if it opens or closes the slot. Else they stay.
abbrev pub slices_next : ℕ → ℕ → Slices → Slices → Step → Slices
slices_next i u configured now (Opens j) = if j == i then configured else now
slices_next i u configured now (Closes j) = if j == i then configured else now
slices_next i u configured now (Proposes j w x) = now
slices_next i u configured now (Delivers w size d) = now
slices_next i u configured now (Hears j w from kind k) = now
slices_next i u configured now (NominationTimerFires j w r) = now
slices_next i u configured now (BallotTimerFires j w n) = now
slices_next i u configured now (Reslices j w q) = if (j == i) && (w == u) then q else now

-- after the events of these entries
unfoldable pub slices_since : ℕ → ℕ → Slices → Slices → List Entry → Slices
slices_since i u configured now [] = now
slices_since i u configured now (x ∷ xs) = slices_since i u configured (slices_next i u configured now x.event) xs

-- after a whole run: those that the node was given last since the slot was opened, else the configured ones
abbrev pub slices_at_end : ℕ → ℕ → Slices → List Entry → Slices
slices_at_end i u configured run = slices_since i u configured configured run

-- the slices that a run gives a hosted node at an open slot are those in the state that the run leads to
abbrev pub SlicesFollowRuns : Type 0
SlicesFollowRuns = (config : Config) (run : List Entry) (i u : ℕ) (configured : Slices) (p : Instance) → IsRun config run
    → slices_of config.nodes u ≡ Some configured
    → node_where_open (instances_at (state_of config run).slots i) u ≡ Some p
    → p.node.slices ≡ slices_at_end i u configured run
