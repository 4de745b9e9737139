-- The claims that isolation is made of, each in the words of its own layer.
use Rattle.scp_types.specs.declared.event.NodeEvent.{NodeEvent}
use Rattle.scp_types.specs.declared.event.Out.{Out}
use Rattle.std.specs.Prelude.{◌≡◌, ℕ, not, ◌||◌, List, [], ◌++◌, filter, take, Some, IsTrue, IsFalse}
use Rattle.std.specs.List.{list_all}
use Rattle.scp_types.specs.declared.kind.Kind.{Kind}
use Rattle.scp_types.specs.Statements.{Sent}
use Rattle.scp_spec.specs.Sets.{Names, within, AreWithin}
use Rattle.scp_spec.specs.Satisfaction.{names}
use Rattle.scp_spec.specs.Rows.{row}
use Rattle.scp_spec.specs.Reach.{reach_of}
use Rattle.scp_spec.specs.Nodes.{Node, step, Calm}
use Rattle.scp_types.specs.declared.event.NodeEvent.TheVariants.{Propose, Take, NominationTimer, BallotTimer, Reslice}
use Rattle.scp_spec.specs.Networks.{HostedNode, Instance, instances_at, node_where_open}
use Rattle.scp_spec.specs.Hosts.{Entry, Config}
use Rattle.scp_spec.specs.Runs.{IsRun, state_of}
use Rattle.scp_spec.specs.Isolation.{closure}

-- A set is closed for a node: it has the node's name, the names of its slices, and its leaders. It also has the names
-- in each row of the node's table whose sender is in the set.
pub record IsClosedFor (R : Names) (n : Node) : Type 0 where
  pub has : IsTrue (R n.name)
  pub own : IsTrue (within (names n.slices) R)
  pub leaders : IsTrue (within n.inputs.leaders R)
  pub rows : IsTrue (list_all (λ e. not (R e.sender) || within (names e.slices) R) n.table)

-- after an event a node gave nothing out, and its inputs, its votes and the rows of senders in the set are as they were
pub record IsQuiet (R : Names) (old new : Node) (os : List Out) : Type 0 where
  pub outs : os ≡ []
  pub inputs : new.inputs ≡ old.inputs
  pub votes : new.votes ≡ old.votes
  pub rows : (u : ℕ) (k : Kind) → IsTrue (R u) → row new.table u k ≡ row old.table u k

-- Calm nodes are quiet. A set is closed for a calm node, and an envelope comes whose sender is outside the set. Then
-- the node is quiet, be the envelope taken or stale.
abbrev pub CalmNodesAreQuiet : Type 0
CalmNodesAreQuiet = (R : Names) (n : Node) (e : Sent) → IsClosedFor R n → Calm n → IsFalse (R e.sender)
    → IsQuiet R n (step n (Take e)).0 (step n (Take e)).1

-- Prefix, of a run: the closure of each beginning lies in that of the whole run
abbrev pub PrefixOfRun : Type 0
PrefixOfRun = (nodes : List HostedNode) (i v : ℕ) (front rest : List Entry) (u : ℕ) → IsTrue (closure nodes i v front u)
    → IsTrue (closure nodes i v (front ++ rest) u)

-- Prefix, of reach: whom a node reaches lies in each set that is closed for it
abbrev pub PrefixOfReach : Type 0
PrefixOfReach =
    (R : Names) (n : Node) → IsClosedFor R n → (u : ℕ) → IsTrue (reach_of n.name n.slices n.table u) → IsTrue (R u)

-- Prefix, over a whole run: the closure of the whole run is closed for each hosted member at the slot, after each
-- beginning of the run. It has whom that member reaches by its table.
abbrev pub PrefixOfWholeRun : Type 0
PrefixOfWholeRun = (config : Config) (run : List Entry) (i v : ℕ) → IsRun config run →
    let R = closure config.nodes i v run in
    (n u : ℕ) (p : Instance) → IsTrue (R u) → node_where_open (instances_at (state_of config (take n run)).slots i) u ≡ Some p
    → IsClosedFor R p.node × AreWithin (reach_of p.node.name p.node.slices p.node.table) R

-- ---- agreement of two worlds
-- a node with only the rows of senders in a set
abbrev pub node_within : Names → Node → Node
node_within R n = record n { table = filter (λ e. R e.sender) n.table }

-- An event names only members. The sender of an envelope is a member, and its slices name only members, as do new
-- slices.
abbrev pub IsOfMembers : Names → NodeEvent → Type 0
IsOfMembers R (Propose x) = Unit {0}
IsOfMembers R (Take e) = IsTrue (R e.sender) × IsTrue (within (names e.slices) R)
IsOfMembers R (NominationTimer r) = Unit {0}
IsOfMembers R (BallotTimer c) = Unit {0}
IsOfMembers R (Reslice q) = IsTrue (within (names q) R)

-- two nodes are one in state, and their tables agree on the rows of members
abbrev pub AgreeOn : Names → Node → Node → Type 0
AgreeOn R n m = node_within R n ≡ node_within R m

-- Agree: two nodes agree on a set that is closed for both. After one event that names only members they still do, and
-- both give out the same.
abbrev pub Agree : Type 0
Agree = (R : Names) (n m : Node) (e : NodeEvent) → IsClosedFor R n → IsClosedFor R m → IsOfMembers R e → AgreeOn R n m
    → AgreeOn R (step n e).0 (step m e).0 × ((step n e).1 ≡ (step m e).1)
