-- The laws of what serves lines, for a server of which it is known what lasts.
use Rattle.std.specs.Prelude.{◌≡◌, ℕ, [], ◌∷◌, Option, Some, None, refl}
use Rattle.std.proofs.Common.{◌∙◌, ap}
use Rattle.line_script.specs.Script.{Bytes}
use Rattle.live_feed.specs.Served.{EmptyLinesAreSkipped, KeptLinesAreWhole, OnlyKeptLinesCount, Serving, journal_line}
use Rattle.live_feed.specs.Lasting.{Lines, Watched, Watching, lasting_behind}
use Rattle.live_feed.specs.declared.answering.Done.{Done}

abbrev watched : {S : Type 0} → S → Lines → Watched S
watched server lines = record { server = server; lines = lines }

same_watched : {S : Type 0} (s t : Watched S) → t.server ≡ s.server → t.lines ≡ s.lines → t ≡ s
same_watched s t server lines = ap (λ x. watched x t.lines) server ∙ ap (λ x. watched s.server x) lines

-- what a journal keeps nothing of changes nothing
unkept_stays : (n : ℕ) (line : Option Bytes) (text : Bytes) (done : Option Done) (old : Lines)
    → journal_line line (record { text = text; done = done }) ≡ [] → lasting_behind n line done old ≡ old
unkept_stays n None text did old e = refl
unkept_stays n (Some []) text did old e = refl
unkept_stays n (Some (b ∷ line)) text None old e = refl
unkept_stays n (Some (b ∷ line)) text (Some done) old e = cc

-- a law: only kept lines change a server that also notes which lines last, if this is so without the notes
pub lasting_only_kept_lines_count : {S : Type 0} (serves : Serving S) → OnlyKeptLinesCount serves → OnlyKeptLinesCount (Watching serves)
lasting_only_kept_lines_count serves only s t n line a by e =
    same_watched s t (only s.server t.server n line a by.0 e) (by.1 ∙ unkept_stays n line a.text a.done s.lines e)

-- a law: empty lines change nothing of a server that also notes which lines last, if this is so without the notes
pub lasting_empty_lines_are_skipped : {S : Type 0} (serves : Serving S) → EmptyLinesAreSkipped serves → EmptyLinesAreSkipped (Watching serves)
lasting_empty_lines_are_skipped serves skipped s n = (skipped s.server n, refl)

-- a law: kept lines of a server that notes which lines last have no byte 0, if this is so without the notes
pub lasting_kept_lines_are_whole : {S : Type 0} (serves : Serving S) → KeptLinesAreWhole serves → KeptLinesAreWhole (Watching serves)
lasting_kept_lines_are_whole serves whole s t n line a by kept = whole s.server t.server n line a by.0 kept
