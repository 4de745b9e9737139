-- What a live host answers to the lines that it is sent, and what its journal has of them.
use Rattle.std.specs.Prelude.{◌≡◌, ◌++◌, ◌+◌, ℕ, Bool, true, false, List, [], ◌∷◌, Option, Some, None, is_some, IsTrue, string_bytes}
use Rattle.line_script.specs.Script.{Bytes}
use Rattle.live_feed.specs.WholeLines.{given, has_no_hole}
use Rattle.live_feed.specs.declared.answering.Answer.{Answer}
use Rattle.live_feed.specs.declared.answering.Done.{Done}

-- what a line is answered: what is told; and what the line did, if the journal keeps it
pub record LineReply : Type 0 where
  pub text : Bytes
  pub done : Option Done

-- the journal keeps the line
abbrev pub is_kept : LineReply → Bool
is_kept a = is_some a.done

-- of an empty line, or of a comment, nothing is told
abbrev pub unanswered : LineReply
unanswered = record { text = []; done = None }

-- what is told of a line's answer, and what the line did; nothing if the line is skipped
abbrev pub reply_of : Option Answer → LineReply
reply_of None = unanswered
reply_of (Some a) = record { text = string_bytes a.block; done = a.done }

-- what may be answered in a state to the line with this number, or to `None`, which is a line that is too long; and the
-- state that is left
abbrev pub Serving : Type 0 → Type 1
Serving S = S → ℕ → Option Bytes → LineReply → S → Type 0

-- lines were answered one after the other, the first with this number, as far as there are answers; and what is left
abbrev pub AreAnswered : {S : Type 0} → Serving S → S → ℕ → List (Option Bytes) → List LineReply → S → Type 0
AreAnswered serves s n lines [] t = t ≡ s
AreAnswered serves s n [] (a ∷ answers) t = ⊥
AreAnswered {S} serves s n (line ∷ lines) (a ∷ answers) t =
    (u : S) × serves s n line a u × AreAnswered serves u (n + 1) lines answers t

-- the line of the journal that stands for a line: the line, if it is kept and not too long, or an empty one
abbrev pub kept_as : Option Bytes → Bool → Bytes
kept_as None kept = []
kept_as (Some line) true = line
kept_as (Some line) false = []

abbrev pub journal_line : Option Bytes → LineReply → Bytes
journal_line line a = kept_as line (is_kept a)

-- a law of servers: what the journal does not keep of a line changes nothing
abbrev pub OnlyKeptLinesCount : {S : Type 0} → Serving S → Type 0
OnlyKeptLinesCount {S} serves =
    (s t : S) (n : ℕ) (line : Option Bytes) (a : LineReply) → serves s n line a t → journal_line line a ≡ [] → t ≡ s

-- a law of servers: an empty line is not answered, and changes nothing
abbrev pub EmptyLinesAreSkipped : {S : Type 0} → Serving S → Type 0
EmptyLinesAreSkipped {S} serves = (s : S) (n : ℕ) → serves s n (Some []) unanswered s

-- a law of servers: a line that the journal keeps has no byte 0
abbrev pub KeptLinesAreWhole : {S : Type 0} → Serving S → Type 0
KeptLinesAreWhole {S} serves =
    (s t : S) (n : ℕ) (line : Bytes) (a : LineReply) → serves s n (Some line) a t → is_kept a ≡ true → IsTrue (has_no_hole line)

-- Lines were served one after the other, the first with this number. These are the lines of the journal that stand for
-- them, what is told of them, and the state that is left.
pub data ServesAll {S : Type 0} (serves : Serving S) (longest : ℕ) : S → ℕ → List Bytes → List Bytes → Bytes → S → Type 0 where
  none : {s : S} {n : ℕ} → ServesAll serves longest s n [] [] [] s
  next : {s t u : S} {n : ℕ} {line : Bytes} {more journal : List Bytes} {others : Bytes} (a : LineReply)
      → serves s n (given longest line) a t → ServesAll serves longest t (n + 1) more journal others u
      → ServesAll serves longest s n (line ∷ more) (journal_line (given longest line) a ∷ journal) (a.text ++ others) u
