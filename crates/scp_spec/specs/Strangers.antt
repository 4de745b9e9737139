-- What an envelope makes of a node that neither reaches its sender nor has it for a leader.
use Rattle.std.specs.Prelude.{◌≡◌, ℕ, List, [], IsTrue, IsFalse}
use Rattle.scp_types.specs.Trees.{Slices}
use Rattle.scp_types.specs.Statements.{Sent}
use Rattle.scp_types.specs.declared.event.NodeEvent.{NodeEvent}
use Rattle.scp_types.specs.declared.event.NodeEvent.TheVariants.{Propose, Take, NominationTimer, BallotTimer, Reslice}
use Rattle.scp_spec.specs.Sets.{Names, among, within}
use Rattle.scp_spec.specs.Satisfaction.{names}
use Rattle.scp_spec.specs.Rows.{is_taken, with_row}
use Rattle.scp_spec.specs.Reach.{HoldsReach, IsReach}
use Rattle.scp_spec.specs.Nodes.{Node, fresh, step}
use Rattle.scp_spec.specs.Claims.{IsClosedFor, IsQuiet}
use Rattle.scp_spec.specs.Limits.{ComesOfEvents}

-- if an event gives slices, they name only nodes in the set
abbrev pub GivesWithin : Names → NodeEvent → Type 0
GivesWithin R (Propose x) = Unit {0}
GivesWithin R (Take e) = Unit {0}
GivesWithin R (NominationTimer r) = Unit {0}
GivesWithin R (BallotTimer c) = Unit {0}
GivesWithin R (Reslice q) = IsTrue (within (names q) R)

-- events lead to the node, and the set has its name and the names of all slices that it has had
pub data HasNamed (R : Names) : Node → Type 0 where
  begin : (slot name : ℕ) (configured : Slices) → IsTrue (R name) → IsTrue (within (names configured) R)
      → HasNamed R (fresh slot name configured)
  next : {n : Node} → HasNamed R n → (e : NodeEvent) → GivesWithin R e → HasNamed R (step n e).0

-- The leaders that events gave to a node are in each set with its name and the names of all slices that it has had. The
-- names of its slices of the moment would not do, since leaders stay.
abbrev pub LeadersAreNear : Type 0
LeadersAreNear = (R : Names) (n : Node) → HasNamed R n → IsTrue (within n.inputs.leaders R)

-- A set has a node, the names of all slices that it has had, and what the rows of senders in the set name. Then it is
-- closed for the node.
abbrev pub HeldIsClosed : Type 0
HeldIsClosed = (R : Names) (n : Node) → HasNamed R n → HoldsReach n.name n.slices n.table R → IsClosedFor R n

-- A set has a node that events lead to, the names of its slices of the moment, and those in rows of senders in the set.
-- The node takes an envelope from outside the set, and not from a leader. Then its table has the row, and nothing else
-- happens.
abbrev pub OutsidersAddRows : Type 0
OutsidersAddRows = (R : Names) (n : Node) (e : Sent) → ComesOfEvents n → HoldsReach n.name n.slices n.table R
    → IsFalse (R e.sender) → IsFalse (among n.inputs.leaders e.sender) → IsTrue (is_taken n.table e)
    → step n (Take e) ≡ (record n { table = with_row e n.table }, [])

-- A set has a node that events lead to, and whom it reaches. An envelope from outside the set, and not from a leader,
-- makes the node give nothing out, taken or stale. Its inputs, its votes and the rows of senders in the set stay.
abbrev pub OutsidersAreQuiet : Type 0
OutsidersAreQuiet = (R : Names) (n : Node) (e : Sent) → ComesOfEvents n → HoldsReach n.name n.slices n.table R
    → IsFalse (R e.sender) → IsFalse (among n.inputs.leaders e.sender)
    → IsQuiet R n (step n (Take e)).0 (step n (Take e)).1

-- A node that events lead to takes an envelope of a sender that it does not reach, and that is no leader of its. Then
-- its table has the row, and nothing else happens.
abbrev pub StrangersAddRows : Type 0
StrangersAddRows = (n : Node) (reach : List ℕ) (e : Sent) → ComesOfEvents n → IsReach n.name n.slices n.table reach
    → IsFalse (among reach e.sender) → IsFalse (among n.inputs.leaders e.sender) → IsTrue (is_taken n.table e)
    → step n (Take e) ≡ (record n { table = with_row e n.table }, [])
