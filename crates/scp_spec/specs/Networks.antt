-- Networks: their events and refusals, and what each event does.
use Rattle.scp_types.specs.declared.event.NodeEvent.{NodeEvent}
use Rattle.scp_types.specs.declared.event.Out.{Out}
use Rattle.std.specs.Prelude.{ℕ, zero, suc, ◌+◌, Bool, true, false, not, ◌||◌, ◌==◌, nat_lt, length, slice_get, List, [], ◌∷◌, ◌++◌, Option, Some, None, filter, filter_map, map, if◌then◌else◌, is_none, is_some}
use Rattle.scp_types.specs.Trees.{Slices}
use Rattle.scp_types.specs.declared.kind.Kind.{Kind}
use Rattle.scp_types.specs.declared.event.Event.{Event}
use Rattle.scp_types.specs.declared.event.Event.TheVariants as event
use Rattle.scp_types.specs.declared.event.Refusal.{Refusal}
use Rattle.scp_types.specs.declared.event.Refusal.TheVariants.{NoSuchNode, SlotNotOpen, SlotOpenAlready, TooManySlots, BadEnvelope, HostedSender, NotEmitted, JournalFull, BytesFull, BadValue, ProposedAlready, ShareFull, ShareBytesFull}
use Rattle.scp_types.specs.Statements.{Sent, kind_of}
use Rattle.scp_spec.specs.Rows.{is_kind}
use Rattle.scp_spec.specs.Nodes.{Node, fresh, step}
use Rattle.scp_spec.specs.Rosters.{Roster, Source, Draw, share_or_budgets, events_drawn, bytes_drawn, events_of}
use Rattle.scp_spec.specs.Rosters.Share.{Own, Pair}
use Rattle.scp_spec.specs.Rosters.Source.{OfBudgets, OfOpens, OfShare}
use Rattle.scp_types.specs.declared.event.NodeEvent.TheVariants.{Propose, Take, NominationTimer, BallotTimer, Reslice}
use Rattle.scp_types.specs.declared.event.Out.TheVariants.{ArmNomination, ArmBallot, Emit, Externalized as Decided}

-- ---- events
-- what bytes say: an envelope, or the number of a fault
pub data Reading : Type 0 where
  Read : Sent → Reading
  Fault : ℕ → Reading

-- an event whose bytes have been read, and are kept as their number and what they say
pub data Step : Type 0 where
  Opens : ℕ → Step
  Closes : ℕ → Step
  Proposes : ℕ → ℕ → List ℕ → Step
  Delivers : ℕ → ℕ → Reading → Step
  Hears : ℕ → ℕ → ℕ → Kind → ℕ → Step
  NominationTimerFires : ℕ → ℕ → ℕ → Step
  BallotTimerFires : ℕ → ℕ → ℕ → Step
  Reslices : ℕ → ℕ → Slices → Step

-- what an event is, by a decoder of envelopes
abbrev pub step_of_event : (List ℕ → Reading) → Event → Step
step_of_event decode (event.OpenSlot i) = Opens i
step_of_event decode (event.CloseSlot i) = Closes i
step_of_event decode (event.Propose i u x) = Proposes i u x
step_of_event decode (event.Deliver u bytes) = Delivers u (length bytes) (decode bytes)
step_of_event decode (event.Hear i u from kind k) = Hears i u from kind k
step_of_event decode (event.NominationTimer i u r) = NominationTimerFires i u r
step_of_event decode (event.BallotTimer i u n) = BallotTimerFires i u n
step_of_event decode (event.Reslice i u q) = Reslices i u q

-- ---- networks
-- a hosted node, as it is configured
pub record HostedNode : Type 0 where
  pub name : ℕ
  pub slices : Slices

-- the most events and delivered bytes that may draw on a network's budgets, and its most open slots
pub record Budgets : Type 0 where
  pub events : ℕ
  pub bytes : ℕ
  pub slots : ℕ

-- a hosted node at a slot, and what it has emitted since the slot was opened
pub record Instance : Type 0 where
  pub node : Node
  pub emitted : List Sent

-- an open slot
pub record Slot : Type 0 where
  pub number : ℕ
  pub instances : List Instance

-- A network. It counts the events and delivered bytes that drew on its budgets so far, and the openings and closings
-- that drew on theirs. It lists what was drawn on the shares of each slot since it was last opened.
pub record Net : Type 0 where
  pub number : ℕ
  pub nodes : List HostedNode
  pub budgets : Budgets
  pub roster : Option Roster
  pub slots : List Slot
  pub events : ℕ
  pub bytes : ℕ
  pub opens : ℕ
  pub draws : List Draw

-- ---- looking up
-- the slices of a hosted node, by its name
abbrev pub slices_of : List HostedNode → ℕ → Option Slices
slices_of [] u = None
slices_of (h ∷ hs) u = if h.name == u then Some h.slices else slices_of hs u

-- the nodes at an open slot
abbrev pub instances_at : List Slot → ℕ → Option (List Instance)
instances_at [] i = None
instances_at (s ∷ ss) i = if s.number == i then Some s.instances else instances_at ss i

-- the node of a name among them
abbrev pub node_named : List Instance → ℕ → Option Instance
node_named [] u = None
node_named (p ∷ ps) u = if p.node.name == u then Some p else node_named ps u

-- the node of a name at a slot; none if the slot is not open or has no such node
abbrev pub node_where_open : Option (List Instance) → ℕ → Option Instance
node_where_open None u = None
node_where_open (Some ps) u = node_named ps u

-- what is emitted, of all that is given out
abbrev pub emission_of : Out → Option Sent
emission_of (ArmNomination r) = None
emission_of (ArmBallot n) = None
emission_of (Emit e) = Some e
emission_of (Decided x) = None

-- all that is emitted, in order
abbrev pub emissions : List Out → List Sent
emissions os = filter_map emission_of os

-- the k-th emission of the kind since the slot was opened, k from 1
abbrev pub emission : Option Instance → Kind → ℕ → Option Sent
emission None kind k = None
emission (Some p) kind zero = None
emission (Some p) kind (suc k) = slice_get (filter (λ e. is_kind kind (kind_of e.body)) p.emitted) k

-- ---- what an event does
-- a node at a slot after its step on an event, with what that emits
unfoldable pub after_event : NodeEvent → Instance → Instance
after_event e p = record { node = (step p.node e).0; emitted = p.emitted ++ emissions (step p.node e).1 }

-- what the step of a node at a slot gives out
abbrev pub outs_at : NodeEvent → Option Instance → List Out
outs_at e None = []
outs_at e (Some p) = (step p.node e).1

-- the step of one node among those of a slot
abbrev pub act_in : ℕ → NodeEvent → List Instance → List Instance
act_in u e ps = map (λ p. if p.node.name == u then after_event e p else p) ps

-- a step of one node at one slot
unfoldable pub act : Net → ℕ → ℕ → NodeEvent → Net × List Out
act net i u e = (
  record net {
    slots = map {B = Slot} (λ (s : Slot). if s.number == i then record s {
      instances =
          act_in u e s.instances;
    } else s) net.slots;
  },
  outs_at e (node_where_open (instances_at net.slots i) u),
)

-- what a node does with an envelope that is handed over; nothing happens if there is none
abbrev pub act_known : Net → ℕ → ℕ → Option Sent → Net × List Out
act_known net i u None = (net, [])
act_known net i u (Some e) = act net i u (Take e)

-- opening a slot makes each hosted node anew, with the slices of its configuration
unfoldable pub instances_of_new_slot : List HostedNode → ℕ → List Instance
instances_of_new_slot nodes i = map (λ h. record { node = fresh i h.name h.slices; emitted = [] }) nodes

-- nothing is drawn yet on the shares of a slot that is opened
abbrev pub draws_after_opening : ℕ → List Draw → List Draw
draws_after_opening i draws = filter (λ d. not (d.slot == i)) draws

-- What an event does that is not refused. A closed slot is forgotten, but what was drawn on its shares is kept until it
-- is opened again. A Hear hands over what was emitted.
unfoldable pub effect : Net → Step → Net × List Out
effect net (Opens i) = (
  record net {
    slots = net.slots ++ record { number = i; instances = instances_of_new_slot net.nodes i } ∷ [];
    draws = draws_after_opening i net.draws;
  },
  [],
)
effect net (Closes i) = (record net { slots = filter (λ s. not (s.number == i)) net.slots }, [])
effect net (Proposes i u x) = act net i u (Propose x)
effect net (Delivers u size (Read e)) = act net e.slot u (Take e)
effect net (Delivers u size (Fault n)) = (net, [])
effect net (Hears i u from kind k) = act_known net i u (emission (node_where_open (instances_at net.slots i) from) kind k)
effect net (NominationTimerFires i u r) = act net i u (NominationTimer r)
effect net (BallotTimerFires i u n) = act net i u (BallotTimer n)
effect net (Reslices i u q) = act net i u (Reslice q)

-- ---- what a step draws on
-- What a step draws on, with a roster. Openings and closings draw on theirs, and a hosted node's own steps on its own
-- share. What it gets from another name draws on the share of both. If a name of a share is not on the roster, the step
-- draws on the budgets. What is not hosted is refused before it draws, and so are bytes that are no envelope.
abbrev pub source_by : Roster → Step → Source
source_by r (Opens i) = OfOpens r.shares
source_by r (Closes i) = OfOpens r.shares
source_by r (Proposes i u x) = share_or_budgets r i (Own u)
source_by r (Delivers u size (Read e)) = share_or_budgets r e.slot (Pair u e.sender)
source_by r (Delivers u size (Fault n)) = OfBudgets
source_by r (Hears i u from kind k) = share_or_budgets r i (Pair u from)
source_by r (NominationTimerFires i u n) = share_or_budgets r i (Own u)
source_by r (BallotTimerFires i u n) = share_or_budgets r i (Own u)
source_by r (Reslices i u q) = share_or_budgets r i (Own u)

-- what a step draws on: without a roster the budgets, with one by the roster
abbrev pub source : Option Roster → Step → Source
source None e = OfBudgets
source (Some r) e = source_by r e

-- ---- refusals
-- the network hosts the name
abbrev pub is_hosted : Net → ℕ → Bool
is_hosted net u = is_some (slices_of net.nodes u)

-- the slot is open
abbrev pub is_open : Net → ℕ → Bool
is_open net i = is_some (instances_at net.slots i)

-- the node has been told to propose a value
abbrev pub has_proposal : Option Instance → Bool
has_proposal None = false
has_proposal (Some p) = is_some p.node.inputs.proposal

-- the bytes are no value, which has 1 to 256 of them
abbrev pub is_bad_value : List ℕ → Bool
is_bad_value x = (length x == 0) || nat_lt 256 (length x)

-- the name is not hosted
abbrev pub hosted_test : Net → ℕ → Bool × Refusal
hosted_test net u = (not (is_hosted net u), NoSuchNode)

-- the slot is not open
abbrev pub open_test : Net → ℕ → Bool × Refusal
open_test net i = (not (is_open net i), SlotNotOpen)

-- the events that it draws on are used up
abbrev pub room_test : Net → Source → Bool × Refusal
room_test net OfBudgets = (not (nat_lt net.events net.budgets.events), JournalFull)
room_test net (OfOpens shares) = (not (nat_lt net.opens shares.opens), ShareFull)
room_test net (OfShare shares i s) = (not (nat_lt (events_drawn i s net.draws) (events_of shares s)), ShareFull)

-- `size` more bytes would exceed those of what it draws on; openings and closings have none
abbrev pub bytes_test : Net → Source → ℕ → Bool × Refusal
bytes_test net OfBudgets size = (nat_lt net.budgets.bytes (net.bytes + size), BytesFull)
bytes_test net (OfOpens shares) size = (false, ShareBytesFull)
bytes_test net (OfShare shares i s) size =
    (nat_lt shares.bytes (bytes_drawn i s net.draws + size), ShareBytesFull)

-- the tests of an event that draws on a source, in this order, each with its refusal if it holds
abbrev pub tests_on : Net → Source → Step → List (Bool × Refusal)
tests_on net s (Opens i) =
    (is_open net i, SlotOpenAlready) ∷ (
      not (nat_lt (length net.slots) net.budgets.slots),
      TooManySlots,
    ) ∷ room_test net s ∷ []
tests_on net s (Closes i) = open_test net i ∷ room_test net s ∷ []
tests_on net s (Proposes i u x) =
    hosted_test net u ∷ open_test net i ∷ (is_bad_value x, BadValue) ∷ (
      has_proposal (node_where_open (instances_at net.slots i) u),
      ProposedAlready,
    ) ∷ room_test net s ∷ []
tests_on net s (Delivers u size (Fault n)) = hosted_test net u ∷ (true, BadEnvelope n) ∷ []
tests_on net s (Delivers u size (Read e)) =
    hosted_test net u ∷ (
      is_hosted net e.sender,
      HostedSender,
    ) ∷ open_test net e.slot ∷ room_test net s ∷ bytes_test net s size ∷ []
tests_on net s (Hears i u from kind k) =
    (not (is_hosted net u) || not (is_hosted net from) || (u == from), NoSuchNode) ∷ open_test net i ∷
    (is_none (emission (node_where_open (instances_at net.slots i) from) kind k), NotEmitted) ∷ room_test net s ∷ []
tests_on net s (NominationTimerFires i u r) = hosted_test net u ∷ open_test net i ∷ room_test net s ∷ []
tests_on net s (BallotTimerFires i u n) = hosted_test net u ∷ open_test net i ∷ room_test net s ∷ []
tests_on net s (Reslices i u q) = hosted_test net u ∷ open_test net i ∷ room_test net s ∷ []

-- what is tested of an event
abbrev pub tests : Net → Step → List (Bool × Refusal)
tests net e = tests_on net (source net.roster e) e

-- the first test that holds refuses
abbrev pub first_that : List (Bool × Refusal) → Option Refusal
first_that [] = None
first_that (t ∷ ts) = if t.0 then Some t.1 else first_that ts

-- ---- a step of a network
-- what a step is answered: done, with what it gives out, or refused
pub data Reply : Type 0 where
  Done : List Out → Reply
  Refused : Refusal → Reply

-- only what is delivered counts as bytes
abbrev pub size_of : Step → ℕ
size_of (Delivers u size d) = size
size_of _ = 0

-- this number if a step draws on the budgets; else 0
abbrev pub on_budgets : Source → ℕ → ℕ
on_budgets OfBudgets n = n
on_budgets (OfOpens shares) n = 0
on_budgets (OfShare shares i s) n = 0

-- 1 if a step draws on openings and closings; else 0
abbrev pub on_opens : Source → ℕ
on_opens OfBudgets = 0
on_opens (OfOpens shares) = 1
on_opens (OfShare shares i s) = 0

-- what a step of `size` bytes draws on a share, if it draws on one
abbrev pub on_shares : Source → ℕ → List Draw
on_shares OfBudgets size = []
on_shares (OfOpens shares) size = []
on_shares (OfShare shares i s) size = record { slot = i; share = s; size = size } ∷ []

-- a step is counted on what it draws on, and on nothing else
abbrev pub with_draw : Source → ℕ → Net → Net
with_draw s size net = record net {
  events = net.events + on_budgets s 1;
  bytes = net.bytes + on_budgets s size;
  opens = net.opens + on_opens s;
  draws = on_shares s size ++ net.draws;
}

-- a refused event changes nothing; another one is counted and does what it does
abbrev pub state_and_reply : Net → Step → Option Refusal → Net × Reply
state_and_reply net e (Some n) = (net, Refused n)
state_and_reply net e None = (with_draw (source net.roster e) (size_of e) (effect net e).0, Done (effect net e).1)

-- the first refusal that applies, with the state unchanged; else what the event does
unfoldable pub net_step : Net → Step → Net × Reply
net_step net e = state_and_reply net e (first_that (tests net e))
