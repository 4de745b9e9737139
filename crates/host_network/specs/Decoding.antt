-- The codec's reading of bytes, in the place of the decoder that histories are told with.
use Rattle.std.specs.Prelude.{◌≡◌, ◌↔◌, ℕ, List, Result, Ok, Err}
use Rattle.scp_types.specs.Statements.{Sent}
use Rattle.scp_types.specs.declared.event.Event.{Event}
use Rattle.scp_codec.specs.declared.error.Fault.{Fault as Wrong}
use Rattle.scp_codec.specs.Answers.{fault_number}
use Rattle.scp_codec.specs.Grammar.{IsFault}
use Rattle.scp_codec.specs.Reading.{decoding}
use Rattle.scp_codec.specs.Spelling.{Spells}
use Rattle.scp_codec.specs.Steps.{IsBytes}
use Rattle.scp_spec.specs.Networks.{Reading, Step, step_of_event}
use Rattle.scp_spec.specs.Networks.Reading.{Read, Fault}
use Rattle.host_network.specs.declared.reading.Reading.{Reading as Answer}
use Rattle.host_network.specs.declared.reading.Reading.TheVariants.{Says, Faulty}

-- an envelope, or the number of a fault
abbrev pub reading_of_result : Result Sent Wrong → Reading
reading_of_result (Ok e) = Read e
reading_of_result (Err f) = Fault (fault_number f)

-- what a text says, by the codec; every text says something, and exactly one thing
unfoldable pub reading : List ℕ → Reading
reading bytes = reading_of_result (decoding bytes)

-- what an event is to this host, which reads bytes by the codec
abbrev pub step_of : Event → Step
step_of e = step_of_event reading e

-- what the code's answer to bytes says
abbrev pub said_by : Answer → Reading
said_by (Says e) = Read e
said_by (Faulty n) = Fault n

-- of bytes it is what the grammar of envelopes says of them
pub record IsExactly (bytes : List ℕ) : Type 0 where
  pub envelope : (e : Sent) → (reading bytes ≡ Read e) ↔ Spells bytes e
  pub fault : (f : Wrong) → (reading bytes ≡ Fault (fault_number f)) ↔ IsFault bytes f

-- each text is an envelope exactly if it spells that, and a fault exactly if it has that fault
abbrev pub ReadingsAreExact : Type 0
ReadingsAreExact = (bytes : List ℕ) → IsBytes bytes → IsExactly bytes
