-- Two networks that agree on a set of names at a slot, and what a step of each makes of that.
use Rattle.scp_types.specs.declared.event.Out.{Out}
use Rattle.std.specs.Prelude.{◌≡◌, ℕ, not, ◌&&◌, ◌||◌, ◌==◌, List, [], Option, Some, None, take, if◌then◌else◌, IsTrue, IfSome}
use Rattle.std.specs.List.{list_all}
use Rattle.scp_types.specs.Trees.{Slices}
use Rattle.scp_spec.specs.Sets.{Names, within}
use Rattle.scp_spec.specs.Satisfaction.{names}
use Rattle.scp_spec.specs.Nodes.{Calm}
use Rattle.scp_spec.specs.Networks.{Step, Instance, Net, slices_of, instances_at, node_where_open, net_step}
use Rattle.scp_spec.specs.Networks.Reply.{Done}
use Rattle.scp_spec.specs.Hosts.{Entry, Config, new_net}
use Rattle.scp_spec.specs.Runs.{IsRun, state_of}
use Rattle.scp_spec.specs.Isolation.{KeptStep, kept_step, is_of, closure}
use Rattle.scp_spec.specs.Isolation.KeptStep.{Opening, Closing, EventAt, Hearing}
use Rattle.scp_spec.specs.Claims.{IsClosedFor, IsOfMembers, AgreeOn}

-- the node of a name at a slot, with what it emitted; none if the slot is not open or has no such node
abbrev pub instance_in : Net → ℕ → ℕ → Option Instance
instance_in net i u = node_where_open (instances_at net.slots i) u

-- A set is closed for a network at a slot. The configured slices of members name only members. The set is closed for
-- each member's node at the slot, and the node is calm. All that it emitted has the member for its sender, and slices
-- that name only members.
pub record IsClosedIn (R : Names) (i : ℕ) (net : Net) : Type 0 where
  pub nodes : (u : ℕ) (q : Slices) → slices_of net.nodes u ≡ Some q → IsTrue (R u) → IsTrue (within (names q) R)
  pub instances : (u : ℕ) (p : Instance) → instance_in net i u ≡ Some p → IsTrue (R u) → IsClosedFor R p.node
  pub calm : (u : ℕ) (p : Instance) → instance_in net i u ≡ Some p → IsTrue (R u) → Calm p.node
  pub emitted : (u : ℕ) (p : Instance) → instance_in net i u ≡ Some p
      → IsTrue (list_all (λ e. (e.sender == u) && (not (R e.sender) || within (names e.slices) R)) p.emitted)

-- A member in two networks is in neither, or in both. If in both, its nodes are one in state and agree on the rows of
-- members, and it emitted the same.
abbrev pub AreInstancesAlike : Names → Option Instance → Option Instance → Type 0
AreInstancesAlike R None None = Unit {0}
AreInstancesAlike R None (Some q) = ⊥
AreInstancesAlike R (Some p) None = ⊥
AreInstancesAlike R (Some p) (Some q) = AgreeOn R p.node q.node × (p.emitted ≡ q.emitted)

-- Two networks agree on a set at a slot: they host its members with the same slices. And each member is alike in both.
pub record AgreeIn (R : Names) (i : ℕ) (one other : Net) : Type 0 where
  pub cast : (u : ℕ) → IsTrue (R u) → slices_of one.nodes u ≡ slices_of other.nodes u
  pub instances : (u : ℕ) → IsTrue (R u) → AreInstancesAlike R (instance_in one i u) (instance_in other i u)

-- What is kept of a step names only members. The sender of a delivered envelope is a member, and its slices name only
-- members, as do new slices.
abbrev pub IsKeptOfMembers : Names → KeptStep → Type 0
IsKeptOfMembers R Opening = Unit {0}
IsKeptOfMembers R Closing = Unit {0}
IsKeptOfMembers R (EventAt u e) = IsOfMembers R e
IsKeptOfMembers R (Hearing u from kind k) = Unit {0}

-- what a node at the slot gives out, of what a step gives out
abbrev pub given_by : ℕ → ℕ → Step → List Out → List Out
given_by i u e os = if is_of i u e then os else []

-- two networks where nothing has happened agree, if they host the members with the same slices
abbrev pub NewNetworksAgree : Type 0
NewNetworksAgree = (R : Names) (i : ℕ) (one other : Config)
    → ((u : ℕ) → IsTrue (R u) → slices_of one.nodes u ≡ slices_of other.nodes u)
    → AgreeIn R i (new_net one) (new_net other)

-- the closure of a run is closed for the network after each beginning of it
abbrev pub RunsStayClosedIn : Type 0
RunsStayClosedIn = (config : Config) (run : List Entry) (i v n : ℕ) → IsRun config run
    → IsClosedIn (closure config.nodes i v run) i (state_of config (take n run))

-- Agree, of networks: two networks agree on a set that is closed for both, and a step of each is applied. The same is
-- kept of both steps, and names only members, or nothing is kept of either. Then they still agree, and each member
-- gives out the same in both. So a member that hears a member hears the same. Each network hands over the emission of
-- that number of its own node.
abbrev pub StepsAgree : Type 0
StepsAgree = (R : Names) (i : ℕ) (one other : Net) (e d : Step) (os ps : List Out) → IsClosedIn R i one
    → IsClosedIn R i other → AgreeIn R i one other
    → (net_step one e).1 ≡ Done os → (net_step other d).1 ≡ Done ps → kept_step R i e ≡ kept_step R i d
    → IfSome (kept_step R i e) (IsKeptOfMembers R)
    → AgreeIn R i (net_step one e).0 (net_step other d).0
    × ((u : ℕ) → IsTrue (R u) → given_by i u e os ≡ given_by i u d ps)

-- Two networks agree on a set that is closed for the first. A step of the first is applied, of which nothing is kept.
-- Then they still agree, and no member gives anything out.
abbrev pub OtherStepsLeave : Type 0
OtherStepsLeave =
    (R : Names) (i : ℕ) (one other : Net) (e : Step) (os : List Out) → IsClosedIn R i one → AgreeIn R i one other
    → (net_step one e).1 ≡ Done os → kept_step R i e ≡ None
    → AgreeIn R i (net_step one e).0 other × ((u : ℕ) → IsTrue (R u) → given_by i u e os ≡ [])

-- a set that is closed for a network stays so after an applied step, if what is kept of it names only members
abbrev pub StaysClosedIn : Type 0
StaysClosedIn = (R : Names) (i : ℕ) (net : Net) (e : Step) (os : List Out) → IsClosedIn R i net
    → (net_step net e).1 ≡ Done os → IfSome (kept_step R i e) (IsKeptOfMembers R)
    → IsClosedIn R i (net_step net e).0
