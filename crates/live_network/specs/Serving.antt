-- What a line of a served network does: its event, and then what the others hear.
use Rattle.std.specs.Prelude.{◌≡◌, ◌==◌, ◌++◌, ◌⊎◌, not, ℕ, Bool, false, is_none, filter, map, List, [], ◌∷◌, Option, Some, None}
use Rattle.std.specs.List.{flat_map}
use Rattle.scp_types.specs.declared.event.NodeEvent.{NodeEvent}
use Rattle.scp_types.specs.declared.event.NodeEvent.TheVariants.{BallotTimer, NominationTimer, Take}
use Rattle.scp_types.specs.declared.event.Out.{Out}
use Rattle.scp_types.specs.declared.event.Refusal.{Refusal}
use Rattle.scp_types.specs.declared.event.Refusal.TheVariants.{NoMemory}
use Rattle.scp_spec.specs.Networks.{Net, Reply, Step, emissions, first_that, net_step, tests}
use Rattle.scp_spec.specs.Networks.Reading.{Fault, Read}
use Rattle.scp_spec.specs.Networks.Reply.{Done, Refused}
use Rattle.scp_spec.specs.Networks.Step.{BallotTimerFires, Closes, Delivers, Hears, NominationTimerFires, Opens, Proposes, Reslices}
use Rattle.scp_spec.specs.Nodes.{Node, change}
use Rattle.host_config.specs.Configs.{names_of}
use Rattle.host_network.specs.declared.emission.Emission.{Emission}
use Rattle.host_network.specs.Marks.{marks_in, named, slot_and_node_of}
use Rattle.host_network.specs.Standing.{IsDeliveryThatTakesMemory, node_at}

-- ---- who hears what

-- a node that is to hear an emission
pub record Hearing : Type 0 where
  pub node : ℕ
  pub emission : Emission

-- it hears it at a slot
abbrev pub step_of_hearing : ℕ → Hearing → Step
step_of_hearing i h = Hears i h.node h.emission.from h.emission.kind h.emission.number

-- who hears an emission: each of these names but the node whose it is
abbrev pub hearings_of : List ℕ → Emission → List Hearing
hearings_of us e = map (λ u. record { node = u; emission = e }) (filter (λ u. not (u == e.from)) us)

-- who hears these emissions, one emission after the other: each of the names but the node whose it is
abbrev pub all_hearings : List ℕ → List Emission → List Hearing
all_hearings us es = flat_map (hearings_of us) es

-- the emissions of a step that was answered
abbrev pub emissions_by : Net → Step → Reply → List Emission
emissions_by net e (Done os) = named (emissions os) (marks_in net e)
emissions_by net e (Refused r) = []

-- who is to hear them: every other hosted node
abbrev pub waits_after : Net → Step → Reply → List Hearing
waits_after net e r = all_hearings (names_of net.nodes) (emissions_by net e r)

-- ---- what is told

-- whose step it was, and what it gave out, or why it was refused
pub record ToldReply : Type 0 where
  pub node : ℕ
  pub reply : Reply

-- what is told of a node's step: what it gave out, or why it was refused; nothing if it gave nothing out
abbrev pub told_of : ℕ → Reply → List ToldReply
told_of u (Done []) = []
told_of u (Done (o ∷ os)) = record { node = u; reply = Done (o ∷ os) } ∷ []
told_of u (Refused r) = record { node = u; reply = Refused r } ∷ []

-- what the node of an event gave out; openings and closings have no node, and give nothing out
abbrev pub told_at : Option (ℕ × ℕ) → List Out → List ToldReply
told_at None os = []
told_at (Some at) os = told_of at.1 (Done os)

-- ---- steps that are tried

-- a step is the network's step; or it is refused as out of memory, if no refusal applies or bytes are being read, and
-- then nothing changes
pub data IsTried (old : Net) (e : Step) : Reply → Net → Type 0 where
  stepped : IsTried old e (net_step old e).1 (net_step old e).0
  wanting : (first_that (tests old e) ≡ None) ⊎ IsDeliveryThatTakesMemory old.nodes e → IsTried old e (Refused NoMemory) old

-- What waits at a slot is heard, one hearing after the other. What a hearing makes wait joins the end. A hearing that
-- is refused is told and not tried again. These replies are told.
pub data AreHeard (i : ℕ) : List Hearing → Net → List ToldReply → Net → Type 0 where
  all_heard : {net : Net} → AreHeard i [] net [] net
  one_heard : {h : Hearing} {hs : List Hearing} {old now new : Net} {told : List ToldReply} (r : Reply)
      → IsTried old (step_of_hearing i h) r now
      → AreHeard i (hs ++ waits_after old (step_of_hearing i h) r) now told new
      → AreHeard i (h ∷ hs) old (told_of h.node r ++ told) new

-- a node, if there is one, stays as it is: the event makes no change of its own
abbrev pub is_left : Option Node → NodeEvent → Bool
is_left None e = false
is_left (Some n) e = is_none (change n e)

-- an event is stale: nothing comes of it, since an envelope is not newer than what the node has or a timer is not live
abbrev pub is_stale : Net → Step → Bool
is_stale net (Opens i) = false
is_stale net (Closes i) = false
is_stale net (Proposes i u x) = false
is_stale net (Delivers u size (Read e)) = is_left (node_at net e.slot u) (Take e)
is_stale net (Delivers u size (Fault n)) = false
is_stale net (Hears i u from kind k) = false
is_stale net (NominationTimerFires i u r) = is_left (node_at net i u) (NominationTimer r)
is_stale net (BallotTimerFires i u c) = is_left (node_at net i u) (BallotTimer c)
is_stale net (Reslices i u q) = false

-- the slot at which the others hear of a step
abbrev pub slot_at : Option (ℕ × ℕ) → ℕ
slot_at None = 0
slot_at (Some at) = at.0

-- how an event ends: it is refused; or it is done, and is stale or not
pub data Ending : Type 0 where
  IsRefused : Refusal → Ending
  IsDone : Bool → Ending

-- an event is served: it is refused, and that is all; or it is done, told, and then heard of
pub data IsServed (old : Net) (e : Step) : Ending → List ToldReply → Net → Type 0 where
  refused : (r : Refusal) → IsTried old e (Refused r) old → IsServed old e (IsRefused r) [] old
  done : {now new : Net} {told : List ToldReply} (os : List Out) → IsTried old e (Done os) now
      → AreHeard (slot_at (slot_and_node_of e)) (waits_after old e (Done os)) now told new
      → IsServed old e (IsDone (is_stale old e)) (told_at (slot_and_node_of e) os ++ told) new
