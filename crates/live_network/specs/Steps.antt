-- One step of a network, answered whole, and what a beginning of what waits leads to.
use Rattle.std.specs.Prelude.{◌≡◌, ◌++◌, ℕ, List, IfErr, IfOk, OnErr, Result}
use Rattle.scp_types.specs.declared.event.Refusal.{Refusal}
use Rattle.scp_spec.specs.Networks.{Net, Step}
use Rattle.host_network.specs.Marks.{marks_in, slot_and_node_of}
use Rattle.host_network.specs.Standing.{IsRefusal, IsStep, Machine, StandsFor}
use Rattle.live_network.specs.Serving.{AreHeard, Hearing, ToldReply, is_stale}
use Rattle.live_network.specs.declared.stepping.Stepped.{Stepped}

-- an event at a served network: the network's step, its marks, whose it was, and whether it is stale
pub record IsStepped (old : Machine) (e : Step) (s : Stepped) (new : Machine) : Type 0 where
  pub step : IsStep old e s.given.outs.items new
  pub marks : (net : Net) → StandsFor old net → s.given.marks.items ≡ marks_in net e
  pub place : s.place ≡ slot_and_node_of e
  pub stale : (net : Net) → StandsFor old net → s.stale ≡ is_stale net e

-- an event was taken so: it is done; or it is refused, and nothing changed
pub record IsStepTaken (old : Machine) (e : Step) (taken : Result Stepped Refusal) (new : Machine) : Type 0 where
  pub done : IfOk taken (λ s. IsStepped old e s new)
  pub refused : IfErr taken (IsRefusal old e)
  pub same : OnErr taken (new ≡ old)
  pub config : new.config ≡ old.config

-- These hearings, in front of whatever waits, come to this: they are told so, and what they make wait joins the end.
abbrev pub LeadsTo : ℕ → List Hearing → Machine → List Hearing → List ToldReply → Machine → Type 0
LeadsTo i front old more told new =
    (net : Net) → StandsFor old net → (now : Net) × StandsFor new now
    × ((hs : List Hearing) (rest : List ToldReply) (after : Net) → AreHeard i (hs ++ more) now rest after
    → AreHeard i (front ++ hs) net (told ++ rest) after)
