-- What was told and what waits, as code keeps it.
use Rattle.std.specs.Prelude.{◌≡◌, ◌++◌, ℕ, Bool, List, [], map, Option, Some, None, Result, Ok, Err, Vec}
use Rattle.std.specs.Global.{Global}
use Rattle.scp_types.specs.declared.event.Out.{Out}
use Rattle.scp_types.specs.declared.event.Refusal.{Refusal}
use Rattle.scp_spec.specs.Networks.{Net, Reply, Step, emissions}
use Rattle.scp_spec.specs.Networks.Reply.{Done, Refused}
use Rattle.host_network.specs.declared.applied.Given.{Given}
use Rattle.host_network.specs.declared.emission.Emission.{Emission}
use Rattle.host_network.specs.Marks.{named, slot_and_node_of}
use Rattle.host_network.specs.Standing.{Machine, StandsFor}
use Rattle.live_network.specs.Serving.{AreHeard, Ending, Hearing, IsServed, ToldReply, all_hearings, slot_at}
use Rattle.live_network.specs.Serving.Ending.{IsDone, IsRefused}
use Rattle.live_network.specs.Steps.{LeadsTo}
use Rattle.live_network.specs.declared.hearing.Following.{Following}
use Rattle.live_network.specs.declared.hearing.Told.{Told}
use Rattle.live_network.specs.declared.served.Served.{Served}

-- the emissions of a step that gave this out
abbrev pub emissions_of : Given → List Emission
emissions_of g = named (emissions g.outs.items) g.marks.items

-- the answer of a step that is told, as a reply of the definitions
abbrev pub reply_of_step : Result (Vec Out Global) Refusal → Reply
reply_of_step (Ok v) = Done v.items
reply_of_step (Err r) = Refused r

-- what is told of one step, in the words of the definitions
abbrev pub telling_of : Told → ToldReply
telling_of t = record { node = t.node; reply = reply_of_step t.answer }

-- what is told of several steps, in the words of the definitions
abbrev pub tellings_of : List Told → List ToldReply
tellings_of ts = map telling_of ts

abbrev pub ending_by : Option Refusal → Bool → Ending
ending_by None stale = IsDone stale
ending_by (Some r) stale = IsRefused r

-- how an event ended: refused, or done and stale or not
abbrev pub ending_of : Served → Ending
ending_of s = ending_by s.refused s.stale

-- These hearings of the nodes of a network come to what was noted: more emissions that wait behind the others, and more
-- that is told.
abbrev pub IsHeardByAll : ℕ → List ℕ → List Hearing → Machine → Following → Following → Machine → Type 0
IsHeardByAll i us front old before after new =
    (more : List Emission) × (told : List ToldReply) × (after.emissions.items ≡ before.emissions.items ++ more)
    × (tellings_of after.told.items ≡ tellings_of before.told.items ++ told)
    × LeadsTo i front old (all_hearings us more) told new

-- what waits at the slot is heard and told, for each network that the machine stands for, and what becomes of that is
-- kept
abbrev pub HaveHeard : ℕ → List Hearing → Machine → List ToldReply → Machine → Type 0
HaveHeard i hs old told new =
    (net : Net) → StandsFor old net → (after : Net) × AreHeard i hs net told after × StandsFor new after

-- what is told of an event that was not refused is told of its slot
abbrev pub IsToldAt : Option Refusal → ℕ → Step → Type 0
IsToldAt None i e = i ≡ slot_at (slot_and_node_of e)
IsToldAt (Some r) i e = Unit {0}

-- an event is served, for each network that the machine stands for, and what becomes of that is kept
pub record IsServedBy (old : Machine) (e : Step) (new : Machine) (s : Served) : Type 0 where
  pub slot : IsToldAt s.refused s.slot e
  pub served : (net : Net) → StandsFor old net
      → (after : Net) × IsServed net e (ending_of s) (tellings_of s.told.items) after × StandsFor new after
