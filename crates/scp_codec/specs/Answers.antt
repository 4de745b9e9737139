-- The numbers of refusals, and what a refusal says of the text.
use Rattle.std.specs.Prelude.{ℕ, List}
use Rattle.scp_codec.specs.declared.error.Fault.{Fault}
use Rattle.scp_codec.specs.declared.error.Fault.TheVariants.{Truncated, TrailingBytes, Version, Kind, Limit, BadSlices, BadStatement, SpareVersion}
use Rattle.scp_codec.specs.declared.error.CodecError.{CodecError}
use Rattle.scp_codec.specs.declared.error.CodecError.TheVariants as errors
use Rattle.scp_codec.specs.Grammar.{IsFault}

-- the numbers of the faults of an envelope's bytes
abbrev pub fault_number : Fault → ℕ
fault_number Truncated = 1
fault_number TrailingBytes = 2
fault_number Version = 3
fault_number Kind = 4
fault_number Limit = 5
fault_number BadSlices = 6
fault_number BadStatement = 7
fault_number SpareVersion = 9

-- the numbers of all errors of the codec
abbrev pub error_number : CodecError → ℕ
error_number (errors.Fault f) = fault_number f
error_number errors.NoMemory = 8

-- the text has the fault that an error names; an error that says out of memory says nothing of the text
abbrev pub Refuses : List ℕ → CodecError → Type 0
Refuses text (errors.Fault f) = IsFault text f
Refuses text errors.NoMemory = Unit {0}
