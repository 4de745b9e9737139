-- The lines that are printed of envelopes and of their bytes.
use Rattle.std.specs.Prelude.{◌++◌, List, [], ◌∷◌, codes}
use Rattle.std.specs.List.{join_with_byte}
use Rattle.std.specs.Fmt.{decimal}
use Rattle.hex.specs.Hex.{encode_lower}
use Rattle.line_script.specs.Script.{Bytes}
use Rattle.line_script.specs.Names.{text_of_name}
use Rattle.line_script.specs.Printed.{text_of_slices, text_of_statement}
use Rattle.scp_types.specs.Statements.{Sent}
use Rattle.scp_codec.specs.Answers.{fault_number}
use Rattle.scp_codec.specs.declared.error.Fault.{Fault}
use Rattle.scp_codec.specs.declared.error.Fault.TheVariants.{Truncated, TrailingBytes, Version, Kind, Limit, BadSlices, BadStatement, SpareVersion}

-- bytes in lower-case hexadecimal, and a line feed (10)
abbrev pub line_of_bytes : Bytes → Bytes
line_of_bytes bytes = encode_lower bytes ++ 10 ∷ []

-- an envelope in words: its sender, its slot, its slices and its statement
abbrev pub words_of : Sent → List Bytes
words_of e = text_of_name e.sender ∷ decimal e.slot ∷ text_of_slices e.slices ∷ text_of_statement e.body ∷ []

-- the same in a line, with a space (32) between each and the next
abbrev pub text_of_words : Sent → Bytes
text_of_words e = join_with_byte 32 (words_of e)

-- the same with a line feed (10)
abbrev pub line_of_words : Sent → Bytes
line_of_words e = text_of_words e ++ 10 ∷ []

-- the word of a fault
abbrev pub fault_name : Fault → Bytes
fault_name Truncated = codes "Truncated"
fault_name TrailingBytes = codes "TrailingBytes"
fault_name Version = codes "Version"
fault_name Kind = codes "Kind"
fault_name Limit = codes "Limit"
fault_name BadSlices = codes "BadSlices"
fault_name BadStatement = codes "BadStatement"
fault_name SpareVersion = codes "SpareVersion"

-- the line of a fault: `bad`, its number and its name, with a space (32) between each and the next
abbrev pub line_of_fault : Fault → Bytes
line_of_fault f = codes "bad " ++ (decimal (fault_number f) ++ 32 ∷ (fault_name f ++ 10 ∷ []))
