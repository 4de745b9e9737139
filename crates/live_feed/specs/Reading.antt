-- What one read of a live host takes from its reader.
use Rattle.std.specs.Prelude.{◌≡◌, ◌≢◌, ◌++◌, cond, ◌||◌, ℕ, Bool, true, false, List, [], ◌∷◌, Option, Some, None, Result, Ok, Err, IfSome, IsTrue}
use Rattle.std.specs.Io.KnownBytes.{Consumes, IsAtEnd}
use Rattle.line_script.specs.Script.{Bytes, has_no_feed}
use Rattle.live_feed.specs.WholeLines.{given, has_hole}
use Rattle.line_script.specs.declared.input.ReadError.{ReadError}
use Rattle.line_script.specs.declared.input.ReadError.TheVariants as read
use Rattle.live_feed.specs.declared.reading.Piece.{Piece}
use Rattle.live_feed.specs.declared.reading.Piece.TheVariants as piece

-- what is kept of a line: the line as it is given, and whether one of its bytes is 0
pub record HeldLine : Type 0 where
  pub given : Option Bytes
  pub hole : Bool

-- the line as it is given
abbrev pub given_of : HeldLine → Option Bytes
given_of h = h.given

-- nothing is kept of a line, as at its beginning
abbrev pub nothing_held : HeldLine
nothing_held = record { given = Some []; hole = false }

-- of a whole line
abbrev pub held : ℕ → Bytes → HeldLine
held longest line = record { given = given longest line; hole = has_hole line }

-- how a line is given that goes on so
abbrev pub longer_given : ℕ → Option Bytes → Bytes → Option Bytes
longer_given longest None more = None
longer_given longest (Some line) more = given longest (line ++ more)

-- what is kept of a line that goes on with more bytes
abbrev pub longer : ℕ → HeldLine → Bytes → HeldLine
longer longest h more = record { given = longer_given longest h.given more; hole = h.hole || has_hole more }

-- what is kept of a line that these bytes come behind: if the line was held so far, it is held with them now
abbrev pub Grows : ℕ → HeldLine → HeldLine → Bytes → Type 0
Grows longest before after bytes = (line : Bytes) → before ≡ held longest line → after ≡ held longest (line ++ bytes)

-- What was taken from a reader as the next piece of a line, of which this was kept before and that is kept now. It is
-- bytes with no line feed (10) in them, and behind the last of the line its feed. At the end nothing is left to take.
abbrev pub IsNextPiece : ℕ → Option Bytes → Option Bytes → HeldLine → HeldLine → Piece → Type 0
IsNextPiece longest old new before after piece.Part =
    (bytes : Bytes) × IsTrue (has_no_feed bytes) × Consumes old new bytes × Grows longest before after bytes
IsNextPiece longest old new before after (piece.Last more) =
    (bytes : Bytes) × IsTrue (has_no_feed bytes) × Consumes old new (bytes ++ 10 ∷ []) × Grows longest before after bytes
IsNextPiece longest old new before after piece.End = Consumes old new [] × IfSome old (λ _. IsAtEnd new)

-- a reader's next line was taken with its line feed; or, if there was none any more, all that was left
abbrev pub IsNextLine : ℕ → Option Bytes → Option Bytes → HeldLine → Option Bool → Type 0
IsNextLine longest old new read (Some more) =
    (line : Bytes) × IsTrue (has_no_feed line) × Consumes old new (line ++ 10 ∷ []) × (read ≡ held longest line)
IsNextLine longest old new read None =
    (rest : Bytes) × IsTrue (has_no_feed rest) × Consumes old new rest × IfSome old (λ _. IsAtEnd new)

-- a reader's next lines were taken, each with its line feed
abbrev pub AreNextLines : ℕ → Option Bytes → Option Bytes → List HeldLine → Type 0
AreNextLines longest old new [] = new ≡ old
AreNextLines longest old new (h ∷ hs) =
    (now : Option Bytes) × (more : Bool) × IsNextLine longest old now h (Some more) × AreNextLines longest now new hs

-- what was read of a further line behind these: nothing, or that there is none any more; or it could not be read
abbrev pub IsReadTo : ℕ → Option Bytes → Option Bytes → Result Bool ReadError → Type 0
IsReadTo longest old new (Ok true) = new ≡ old
IsReadTo longest old new (Ok false) = (h : HeldLine) × IsNextLine longest old new h None
IsReadTo longest old new (Err why) = why ≢ read.TooLong

-- lines were read one after the other, and then this
abbrev pub HasGathered : ℕ → Option Bytes → Option Bytes → List HeldLine → Result Bool ReadError → Type 0
HasGathered longest old new hs read = (mid : Option Bytes) × AreNextLines longest old mid hs × IsReadTo longest mid new read

-- the lines before the first that has a byte 0
abbrev pub whole_of : List HeldLine → List HeldLine
whole_of [] = []
whole_of (h ∷ hs) = cond h.hole [] (h ∷ whole_of hs)
