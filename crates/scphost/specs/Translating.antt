-- What is printed of envelopes in words and as bytes.
use Rattle.std.specs.Prelude.{◌≡◌, Bool, false, string_bytes}
use Rattle.line_script.specs.Script.{Bytes}
use Rattle.line_script.specs.declared.run.Stop.{Stop}
use Rattle.line_script.specs.declared.run.Stop.TheVariants as stop
use Rattle.line_request.specs.Translations.{DecodesBack, EncodesBack, IsDecoded, IsEncoded}
use Rattle.line_run.specs.declared.answer.Answer.{Answer}
use Rattle.scphost_words.specs.declared.call.EncodeCall.{EncodeCall}

-- the answer is the line of the bytes of the envelope that four words spell, from which it is read back
pub record IsEncoding (asked : EncodeCall) (a : Answer) : Type 0 where
  pub differs : a.differs ≡ false
  pub encoded : IsEncoded asked.from asked.slot asked.slices asked.statement (string_bytes a.text)
  pub back : DecodesBack asked.from asked.slot asked.slices asked.statement (string_bytes a.text)

-- the answer is the line of the fault of bytes, as a difference, or that of their envelope, of which these bytes are
-- printed again
pub record IsDecoding (digits : Bytes) (a : Answer) : Type 0 where
  pub decoded : IsDecoded digits a.differs (string_bytes a.text)
  pub back : a.differs ≡ false → EncodesBack digits (string_bytes a.text)

-- why nothing is printed of words: they cannot be read, or it is out of memory
abbrev pub StopsReading : Type 0 → Stop → Type 0
StopsReading Unread stop.CannotRead = Unread
StopsReading Unread stop.TooLong = ⊥
StopsReading Unread (stop.BadLine number) = ⊥
StopsReading Unread stop.NoMemory = Unit {0}
StopsReading Unread stop.CannotWrite = ⊥

-- why nothing is printed of four words: they spell no envelope, or it is out of memory
abbrev pub StopsEncoding : EncodeCall → Stop → Type 0
StopsEncoding asked =
    StopsReading ((line : Bytes) → ¬ IsEncoded asked.from asked.slot asked.slices asked.statement line)

-- why nothing is printed of a word: it spells no bytes, or it is out of memory
abbrev pub StopsDecoding : Bytes → Stop → Type 0
StopsDecoding digits = StopsReading ((d : Bool × Bytes) → ¬ IsDecoded digits d.0 d.1)
