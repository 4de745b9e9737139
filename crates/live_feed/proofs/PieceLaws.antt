-- A line is read piece by piece.
use Rattle.std.proofs.Common.{◌≡◌, ℕ, Bool, [], ◌∷◌, ◌++◌, refl, sym, subst, append_assoc}
use Rattle.std.specs.Prelude.{Option, Some, Result, Ok, Err, IfOk, IsTrue}
use Rattle.std.specs.Io.KnownBytes.{Consumes, Keeps}
use Rattle.std.proofs.KnownBytes.{Consumes-nil, Consumes-kept, Consumes-trans}
use Rattle.line_script.specs.Script.{Bytes, has_no_feed}
use Rattle.line_script.specs.declared.input.ReadError.{ReadError}
use Rattle.live_feed.specs.Reading.{HeldLine, held, IsNextPiece, IsNextLine}
use Rattle.live_feed.specs.declared.reading.Piece.{Piece}
use Rattle.live_feed.specs.declared.reading.Piece.TheVariants as piece
use Rattle.live_feed.proofs.LineLaws.{plain_both, grows_nothing}

-- ---- one piece

-- a read that was interrupted took nothing
pub nothing_read : (longest : ℕ) (old new : Option Bytes) (kept : HeldLine) (result : Result Piece ReadError) → Keeps old new → IfOk result (λ p. p ≡ piece.Part) → IfOk result (IsNextPiece longest old new kept kept)
nothing_read longest old new kept (Ok p) keeps is =
    subst (IsNextPiece longest old new kept kept) (sym is) ([], refl, Consumes-kept old old new [] (Consumes-nil old) keeps, grows_nothing longest kept)
nothing_read longest old new kept (Err e) keeps is = tt

-- ---- a line so far

pub record LineSoFar (longest : ℕ) (old now : Option Bytes) (kept : HeldLine) : Type 0 where
  pub read : Bytes
  pub plain : IsTrue (has_no_feed read)
  pub consumed : Consumes old now read
  pub is : kept ≡ held longest read

pub begins : (longest : ℕ) (known : Option Bytes) → LineSoFar longest known known (held longest [])
begins longest known = record { read = []; plain = refl; consumed = Consumes-nil known; is = refl }

pub goes_on : (longest : ℕ) (old mid now : Option Bytes) (before after : HeldLine) → LineSoFar longest old mid before → IsNextPiece longest mid now before after piece.Part → LineSoFar longest old now after
goes_on longest old mid now before after h next = record {
  read = h.read ++ next.0;
  plain = plain_both h.read next.0 h.plain next.1;
  consumed = Consumes-trans old mid now h.read next.0 h.consumed next.2;
  is = next.3 h.read h.is;
}

pub line_read : (longest : ℕ) (old mid now : Option Bytes) (before after : HeldLine) (more : Bool) → LineSoFar longest old mid before → IsNextPiece longest mid now before after (piece.Last more) → IsNextLine longest old now after (Some more)
line_read longest old mid now before after more h next = (
  h.read ++ next.0,
  plain_both h.read next.0 h.plain next.1,
  subst (Consumes old now) (sym (append_assoc h.read next.0 (10 ∷ []))) (Consumes-trans old mid now h.read (next.0 ++ 10 ∷ []) h.consumed next.2),
  next.3 h.read h.is,
)
