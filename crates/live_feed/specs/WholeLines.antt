-- The whole lines of what a live host is sent, and how it is given one.
use Rattle.std.specs.Prelude.{◌≡◌, ◌==◌, ◌++◌, ◌&&◌, not, ℕ, Bool, List, length, nat_lt, Option, Some, None, IsTrue, if◌then◌else◌}
use Rattle.std.specs.List.{list_all, list_any}
use Rattle.line_script.specs.Script.{Bytes, lines_with_feeds, has_no_feed}

-- the text begins with these lines, each with a line feed behind it
pub record BeginsWithLines (text : Bytes) (lines : List Bytes) : Type 0 where
  pub rest : Bytes
  pub parts : text ≡ lines_with_feeds lines ++ rest
  pub plain : IsTrue (list_all has_no_feed lines)

-- the text is these lines, each with a line feed behind it, and a rest in which there is no line feed
pub record AreWholeLines (text : Bytes) (lines : List Bytes) : Type 0 where
  pub rest : Bytes
  pub parts : text ≡ lines_with_feeds lines ++ rest
  pub plain : IsTrue (list_all has_no_feed lines)
  pub unended : IsTrue (has_no_feed rest)

-- a line as it is given: itself, or `None` if it has more bytes than the longest
abbrev pub given : ℕ → Bytes → Option Bytes
given longest line = if nat_lt longest (length line) then None else Some line

-- one of these bytes is 0
abbrev pub has_hole : Bytes → Bool
has_hole bytes = list_any (λ b. b == 0) bytes

-- none of these bytes is 0
abbrev pub has_no_hole : Bytes → Bool
has_no_hole bytes = list_all (λ b. not (b == 0)) bytes

-- no byte of a line is a line feed (10) or 0
abbrev pub is_whole_line : Bytes → Bool
is_whole_line line = has_no_feed line && has_no_hole line
