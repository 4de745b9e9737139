-- A command line, from its words to its status.
use Rattle.std.proofs.Common.{◌≡◌, ℕ, List, Option, Err, inl, inr}
use Rattle.std.specs.Io.KnownBytes.{Keeps}
use Rattle.line_script.specs.Script.{Bytes}
use Rattle.line_script.specs.declared.run.Stop.TheVariants as stop
use Rattle.scphost_words.specs.CommandLine.{IsCall}
use Rattle.scphost_words.specs.Words.{Text}
use Rattle.scphost_words.specs.declared.call.Call.{Call}
use Rattle.scphost.specs.Commands.{HasAnsweredWords, IsCarriedOut}
use Rattle.scphost.specs.Printing.{IsPerformed, IsPerformedAsItComes}
use Rattle.scphost.specs.Stops.{End, status_of_end}

-- words that are a call
pub called : (words : List Text) (call : Call) (old new : Option Bytes) (end : End) (status : ℕ)
    → IsCall words call → IsCarriedOut call old new end → status ≡ status_of_end end
    → HasAnsweredWords words old new status
called words call old new end status is carried ended = inl (call, end, is, carried, ended)

-- a call is performed on what readers hold, or as its lines come
pub performed_on : (call : Call) (first second old new : Option Bytes) (end : End)
    → IsPerformed call first second old new end → IsCarriedOut call old new end
performed_on call first second old new end performed = inl (first, second, performed)

pub performed_as_it_comes : (call : Call) (input old new : Option Bytes) (end : End)
    → IsPerformedAsItComes call input old new end → IsCarriedOut call old new end
performed_as_it_comes call input old new end performed = inr (inl (input, performed))

-- one of its files cannot be opened
pub not_opened : (call : Call) (old new : Option Bytes) (end : End) → end ≡ Err stop.CannotRead
    → Keeps old new → IsCarriedOut call old new end
not_opened call old new end is kept = inr (inr (inl is, kept))

-- there is no memory to read it
pub no_room : (call : Call) (old new : Option Bytes) (end : End) → end ≡ Err stop.NoMemory
    → Keeps old new → IsCarriedOut call old new end
no_room call old new end is kept = inr (inr (inr is, kept))
