-- What is read of a journal in place.
use Rattle.std.specs.Prelude.{ℕ, slice_get, List, [], Option, Some, None}
use Rattle.scp_types.specs.declared.event.Out.{Out}
use Rattle.scp_spec.specs.Hosts.{Entry}
use Rattle.scp_spec.specs.Networks.{Step}
use Rattle.scp_spec.specs.Networks.Reading.{Read}
use Rattle.scp_spec.specs.Networks.Step.{Opens, Closes, Proposes, Delivers, Hears, NominationTimerFires, BallotTimerFires, Reslices}
use Rattle.host_journal.specs.declared.lent_event.LentEvent.{LentEvent}
use Rattle.host_journal.specs.declared.lent_event.LentEvent.TheVariants.{OpenSlot, CloseSlot, Propose, Deliver, Hear, NominationTimer, BallotTimer, Reslice}

-- an event that is lent, in the words of the definitions
abbrev pub lent_step : LentEvent → Step
lent_step (OpenSlot i) = Opens i
lent_step (CloseSlot i) = Closes i
lent_step (Propose i u x) = Proposes i u x.now
lent_step (Deliver u size e) = Delivers u size (Read e.now)
lent_step (Hear i u from kind k) = Hears i u from kind k
lent_step (NominationTimer i u r) = NominationTimerFires i u r
lent_step (BallotTimer i u n) = BallotTimerFires i u n
lent_step (Reslice i u q) = Reslices i u q.now

-- what an entry gave out; nothing if there is none
abbrev pub outs_in : Option Entry → List Out
outs_in None = []
outs_in (Some x) = x.outs

-- what the entry with this number gave out, from 0 on; nothing past the last
abbrev pub outs_of_entry : List Entry → ℕ → List Out
outs_of_entry entries n = outs_in (slice_get entries n)
