-- Lines of scripts that print nothing do one thing to the networks: what becomes of these is determined.
use Rattle.std.specs.Prelude.{◌≡◌, ℕ, List, Option, Ok}
use Rattle.line_script.specs.Script.{Bytes}
use Rattle.line_script.specs.Runs.{Runs}
use Rattle.line_request.specs.Naming.{Named, is_in}
use Rattle.line_run.specs.Hosting.{Hosting}
use Rattle.line_run.specs.Unheard.{Unheard, unheard_at}
use Rattle.line_run.specs.Unprinted.{IsFinishedUnprinted, RefusesUnprinted, TellsUnprinted, Unprinted}

-- the same numbers are among these and among those
abbrev pub HaveSame : List ℕ → List ℕ → Type 0
HaveSame us vs = (g : ℕ) → is_in us g ≡ is_in vs g

-- the same numbers have been named, the networks of the same numbers run, and the same are declared as served
pub record AreNamedAlike (one other : Named) : Type 0 where
  pub numbers : HaveSame one.numbers other.numbers
  pub running : HaveSame one.running other.running
  pub served : HaveSame one.served other.served

-- at each slot of each network the same waits
abbrev pub AreUnheardAlike : Unheard → Unheard → Type 0
AreUnheardAlike one other = (g i : ℕ) → unheard_at one g i ≡ unheard_at other g i

-- the networks of two scripts are alike: the same wait, the same numbers are named, the same waits to be handed on, and
-- the journals are the same. In which order numbers and slots are kept does not matter.
pub record AreRunsAlike (one other : Hosting) : Type 0 where
  pub waiting : one.waiting ≡ other.waiting
  pub named : AreNamedAlike one.named other.named
  pub unheard : AreUnheardAlike one.unheard other.unheard
  pub logs : one.logs ≡ other.logs

-- afterwards the networks are alike, and the traces are the same if they were the same before
abbrev pub BecomeAlike : Unprinted → Unprinted → Unprinted → Unprinted → Type 0
BecomeAlike one other new last = AreRunsAlike new.hosting last.hosting × (one.trace ≡ other.trace → new.trace ≡ last.trace)

-- What a line does is determined: networks that are alike are alike after the same line.
abbrev pub LinesDoOneThing : Type 0
LinesDoOneThing =
    (one other new last : Unprinted) (fields : List Bytes) (p q : Option Bytes) → AreRunsAlike one.hosting other.hosting
    → TellsUnprinted one fields p new → TellsUnprinted other fields q last
    → BecomeAlike one other new last

-- What lines do that are all run is determined: networks that are alike are alike after the same lines.
abbrev pub RunsDoOneThing : Type 0
RunsDoOneThing =
    (one other new last : Unprinted) (lines : List (ℕ × Bytes)) (p q : Bytes) → AreRunsAlike one.hosting other.hosting
    → Runs TellsUnprinted RefusesUnprinted one lines p (Ok tt) new
    → Runs TellsUnprinted RefusesUnprinted other lines q (Ok tt) last
    → BecomeAlike one other new last

-- What the end of a script does is determined: if the same networks wait and the journals are the same before it, the
-- journals are the same after it. So are the traces, if they were the same before.
abbrev pub EndsDoOneThing : Type 0
EndsDoOneThing =
    (one other new last : Unprinted) → one.hosting.waiting ≡ other.hosting.waiting
    → one.hosting.logs ≡ other.hosting.logs → IsFinishedUnprinted one new → IsFinishedUnprinted other last
    → (new.hosting.logs ≡ last.hosting.logs) × (one.trace ≡ other.trace → new.trace ≡ last.trace)
