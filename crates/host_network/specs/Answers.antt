-- What an applied event of a network leaves.
use Rattle.std.specs.Prelude.{◌≡◌, ◌⊎◌, ℕ, List, Option, Some, None, IfSome, option_map}
use Rattle.scp_types.specs.Statements.{Sent}
use Rattle.scp_types.specs.declared.event.Out.{Out}
use Rattle.scp_types.specs.declared.event.Refusal.{Refusal}
use Rattle.scp_types.specs.declared.event.Refusal.TheVariants.{NoMemory}
use Rattle.scp_spec.specs.Networks.{Net, Step}
use Rattle.scp_spec.specs.Networks.Reading.{Read}
use Rattle.scp_spec.specs.Networks.Step.{Delivers}
use Rattle.node_store.specs.Archives.{Archived, IsFiled, sent_of}
use Rattle.node_core.specs.Filings.{AreFiledOuts, whole_outs}
use Rattle.host_network.specs.Marks.{marks_in}
use Rattle.host_network.specs.Standing.{IsAllowed, IsStep, FiledMachine, StandsFor, machine_of}
use Rattle.host_network.specs.declared.applied.Outcome.{Outcome}

-- the envelope that an event delivers
abbrev pub delivered_of : Step → Option Sent
delivered_of (Delivers u size (Read e)) = Some e
delivered_of _ = None

-- What is done gives this out, whole and filed, with these marks, and delivers this; the archive has what was given out
-- and what was delivered.
pub record IsOutcome (outs : List Out) (marks : List ℕ) (delivered : Option Sent) (archive : Archived) (a : Outcome) : Type 0 where
  pub outs_are : a.given.outs.items ≡ outs
  pub whole : whole_outs a.filed.items ≡ a.given.outs.items
  pub marks_are : a.given.marks.items ≡ marks
  pub filed : AreFiledOuts archive a.filed.items
  pub delivered_is : option_map sent_of a.delivered ≡ delivered
  pub delivered_filed : IfSome a.delivered (IsFiled archive)

-- An event is the network's step, with what that gives out, whole and filed, and its marks; the archive has what was
-- given out and what was delivered.
pub record IsApplied (old : FiledMachine) (e : Step) (new : FiledMachine) (a : Outcome) : Type 0 where
  pub step : IsStep (machine_of old) e a.given.outs.items (machine_of new)
  pub whole : whole_outs a.filed.items ≡ a.given.outs.items
  pub marks : (net : Net) → StandsFor (machine_of old) net → a.given.marks.items ≡ marks_in net e
  pub filed : AreFiledOuts new.archive a.filed.items
  pub delivered : option_map sent_of a.delivered ≡ delivered_of e
  pub delivered_filed : IfSome a.delivered (IsFiled new.archive)

-- A refused event leaves all as it was, the archive too; or it is out of memory, and no test refuses the event.
abbrev pub IsLeftOrOutOfMemory : FiledMachine → Step → FiledMachine → Refusal → Type 0
IsLeftOrOutOfMemory old e new r = (new ≡ old) ⊎ ((r ≡ NoMemory) × IsAllowed (machine_of old) e)
