-- A command line: the call that its words are, carried out, and the exit status.
use Rattle.std.specs.Prelude.{◌≡◌, ◌⊎◌, ℕ, List, Option, Err}
use Rattle.std.specs.Io.KnownBytes.{Keeps}
use Rattle.line_script.specs.Script.{Bytes}
use Rattle.line_script.specs.declared.run.Stop.TheVariants as stop
use Rattle.scphost_words.specs.CommandLine.{IsCall}
use Rattle.scphost_words.specs.Help.{IsUsage}
use Rattle.scphost_words.specs.Words.{Text}
use Rattle.scphost_words.specs.declared.call.Call.{Call}
use Rattle.scphost_words.specs.declared.call.Usage.{Usage}
use Rattle.scphost_words.specs.declared.call.Usage.TheVariants.{NoMemory}
use Rattle.scphost.specs.Printing.{HasAnsweredUsage, IsPerformed, IsPerformedAsItComes}
use Rattle.scphost.specs.Stops.{End, status_of_end}

-- A call is carried out: it is performed on some contents of its readers, or on those of a standard input as they come.
-- Or one of its files cannot be opened, or it is out of memory to read it. That is told, and nothing is written.
abbrev pub IsCarriedOut : Call → Option Bytes → Option Bytes → End → Type 0
IsCarriedOut call old new end =
    ((first second : Option Bytes) × IsPerformed call first second old new end)
    ⊎ (((input : Option Bytes) × IsPerformedAsItComes call input old new end)
    ⊎ (((end ≡ Err stop.CannotRead) ⊎ (end ≡ Err stop.NoMemory)) × Keeps old new))

-- Why words are not taken as a call: they are none, or it is out of memory. They get help if they ask for it, and else
-- what is wrong with them.
pub record IsUsageOf (words : List Text) (usage : Usage) : Type 0 where
  pub none : (call : Call) → IsCall words call → usage ≡ NoMemory
  pub fits : IsUsage words usage

-- words are answered: they are a call, which is carried out, with the status of how that ended; or they are not taken
-- as one, which is told
abbrev pub HasAnsweredWords : List Text → Option Bytes → Option Bytes → ℕ → Type 0
HasAnsweredWords words old new status =
    ((call : Call) × (end : End) × IsCall words call × IsCarriedOut call old new end × (status ≡ status_of_end end))
    ⊎ ((usage : Usage) × IsUsageOf words usage × HasAnsweredUsage usage old new status)
