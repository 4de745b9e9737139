-- No line of a table file is both bad and told: the law of what runs lines, and its proof.
use Rattle.std.proofs.Common.{List, [], ◌∷◌, inl, inr}
use Rattle.std.specs.Prelude.{Option, Some, None}
use Rattle.line_script.specs.Runs.{BadLinesAreUntold}
use Rattle.line_script.specs.Script.{Bytes}
use Rattle.line_table.specs.Listeners.{HeardRows}
use Rattle.line_table.specs.TableLines.{Prints, RefusesTableLine, ShowsKnown, TellsListener}
use Rattle.line_table.specs.TableLines.TellsListener.{itself, ask, put, env, shown}

-- what is printed is asked for
asked_for : (h : HeardRows) (fields : List Bytes) (printed : Option Bytes) → Prints h fields printed → ShowsKnown fields
asked_for h [] printed p = p
asked_for h (word ∷ []) printed (inl p) = inl p.0
asked_for h (word ∷ []) printed (inr p) = inr p.0
asked_for h (word ∷ field ∷ more) printed p = p

-- a law: no line of a table file is both bad and told
pub bad_table_lines_are_untold : BadLinesAreUntold TellsListener RefusesTableLine
bad_table_lines_are_untold None new fields printed bad (itself begins) = bad _ begins
bad_table_lines_are_untold (Some h) new fields printed bad (ask asks backs) = bad.0 _ asks
bad_table_lines_are_untold (Some h) new fields printed bad (put puts takes) = bad.1 _ puts
bad_table_lines_are_untold (Some h) new fields printed bad (env hands decodes) = bad.2 _ hands
bad_table_lines_are_untold (Some h) new fields printed bad (shown prints) = bad.3 (asked_for h fields printed prints)
