-- Envelopes in words and as bytes, and the way from each to the other.
use Rattle.std.specs.Prelude.{◌≡◌, ◌++◌, Bool, true, false, [], ◌∷◌, Option, Some}
use Rattle.std.specs.Fmt.{decimal}
use Rattle.line_script.specs.Script.{AreFields, Bytes}
use Rattle.line_script.specs.Names.{octets_in, text_of_name}
use Rattle.line_script.specs.Slices.{AreSlices}
use Rattle.line_script.specs.Printed.{text_of_slices, text_of_statement}
use Rattle.scp_types.specs.Statements.{Sent}
use Rattle.scp_codec.specs.Spelling.{Spells}
use Rattle.scp_codec.specs.Grammar.{IsFault}
use Rattle.scp_codec.specs.declared.error.Fault.{Fault}
use Rattle.line_request.specs.Lines.{AreSaid, IsRead, saying_in}
use Rattle.line_request.specs.TranslatedLines.{line_of_bytes, line_of_fault, line_of_words, text_of_words, words_of}

-- ---- what is printed

-- the line of the bytes of the envelope that four words spell: its sender, its slot, its slices and its statement
abbrev pub IsEncoded : Bytes → Bytes → Bytes → Bytes → Bytes → Type 0
IsEncoded from slot slices statement line =
    (bytes : Bytes) × AreSaid bytes from slot slices statement × (line ≡ line_of_bytes bytes)

-- the line of the envelope that bytes spell, in words, or of their fault, which is told apart
pub data IsTranslated (bytes : Bytes) : Bool → Bytes → Type 0 where
  envelope : (e : Sent) → Spells bytes e → IsTranslated bytes false (line_of_words e)
  fault : (f : Fault) → IsFault bytes f → IsTranslated bytes true (line_of_fault f)

-- the same of the bytes that a word spells in hexadecimal
abbrev pub IsDecoded : Bytes → Bool → Bytes → Type 0
IsDecoded digits is_fault line = (bytes : Bytes) × (octets_in digits ≡ Some bytes) × IsTranslated bytes is_fault line

-- ---- the way back

-- whatever is read as what is asked for so is this, and it is read
abbrev pub IsAlways : {X : Type 0} → (X → Type 0) → X → Type 0
IsAlways {X} asks x = (o : Option X) → IsRead asks o → o ≡ Some x

-- of these words this line is printed, and nothing else
abbrev pub EncodesTo : Bytes → Bytes → Bytes → Bytes → Bytes → Type 0
EncodesTo from slot slices statement line = IsAlways (IsEncoded from slot slices statement) line

-- of this word, which spells bytes, this line of an envelope is printed, and nothing else
abbrev pub DecodesTo : Bytes → Bytes → Type 0
DecodesTo digits line = IsAlways (λ (d : Bool × Bytes). IsDecoded digits d.0 d.1) (false, line)

-- the words that are printed of an envelope have this line
abbrev pub EncodesAgain : Sent → Bytes → Type 0
EncodesAgain e line =
    EncodesTo (text_of_name e.sender) (decimal e.slot) (text_of_slices e.slices) (text_of_statement e.body) line

-- what was printed of four words is the line of digits from which the same envelope is read, whose words have this line
-- again
pub record DecodesBack (from slot slices statement line : Bytes) : Type 0 where
  pub digits : Bytes
  pub envelope : Sent
  pub digits_alone : line ≡ digits ++ 10 ∷ []
  pub said : saying_in from slot statement ≡ Some (envelope.sender, envelope.slot, envelope.body)
  pub slices_said : AreSlices slices (Some envelope.slices)
  pub back : DecodesTo digits (line_of_words envelope)
  pub again : EncodesAgain envelope line

-- what was printed of digits is the line of an envelope in words, which are its fields, and of which the same digits are
-- printed
pub record EncodesBack (digits line : Bytes) : Type 0 where
  pub envelope : Sent
  pub words : line ≡ line_of_words envelope
  pub fields : AreFields (text_of_words envelope) (words_of envelope)
  pub back : EncodesAgain envelope (digits ++ 10 ∷ [])
