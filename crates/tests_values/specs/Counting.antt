-- A count to which a line adds its length, as what serves the lines of a live host; and the laws of that.
use Rattle.std.specs.Prelude.{◌≡◌, ◌+◌, ℕ, Bool, true, false, [], length, Option, Some, None, IsTrue, refl}
use Rattle.std.proofs.Common.{◌∙◌, sym, ap, true≢false, add-zero}
use Rattle.line_script.specs.Script.{Bytes}
use Rattle.live_feed.specs.WholeLines.{has_no_hole}
use Rattle.live_feed.specs.Served.{EmptyLinesAreSkipped, KeptLinesAreWhole, OnlyKeptLinesCount, Serving, is_kept, kept_as}

-- a line is kept, has no byte 0, and its length is added; or it is not kept, and the count stays
abbrev pub Adds : ℕ → Option Bytes → Bool → ℕ → Type 0
Adds old None kept new = (kept ≡ false) × (new ≡ old)
Adds old (Some line) true new = IsTrue (has_no_hole line) × (new ≡ old + length line)
Adds old (Some line) false new = new ≡ old

-- a server of tests: it adds up the lengths of the lines that it keeps
abbrev pub Counting : Serving ℕ
Counting s n line a t = Adds s line (is_kept a) t

nothing_added : (s t : ℕ) (line : Bytes) (kept : Bool) → Adds s (Some line) kept t → kept_as (Some line) kept ≡ [] → t ≡ s
nothing_added s t line false same none = same
nothing_added s t line true adds none = adds.1 ∙ ap (λ (xs : Bytes). s + length xs) none ∙ add-zero s

-- a law: only kept lines change the server of tests that adds up lengths
pub only_kept_lines_count : OnlyKeptLinesCount Counting
only_kept_lines_count s t n None a same none = same.1
only_kept_lines_count s t n (Some line) a adds none = nothing_added s t line (is_kept a) adds none

-- a law: empty lines change nothing of the server of tests that adds up lengths
pub empty_lines_are_skipped : EmptyLinesAreSkipped Counting
empty_lines_are_skipped s n = refl

whole_if_kept : (s t : ℕ) (line : Bytes) (kept : Bool) → Adds s (Some line) kept t → kept ≡ true → IsTrue (has_no_hole line)
whole_if_kept s t line false same is = absurd (true≢false (sym is))
whole_if_kept s t line true adds is = adds.0

-- a law: the lines that the server of tests keeps have no byte 0
pub kept_lines_are_whole : KeptLinesAreWhole Counting
kept_lines_are_whole s t n line a adds kept = whole_if_kept s t line (is_kept a) adds kept
