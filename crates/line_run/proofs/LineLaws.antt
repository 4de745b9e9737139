-- The lines of a script that are run, by number.
use Rattle.std.proofs.Common.{◌≡◌, ℕ, not, List, Option, slice_get}
use Rattle.std.specs.Prelude.{filter}
use Rattle.std.specs.List.{enumerate_from}
use Rattle.line_script.specs.Script.{AreLines, Bytes, is_no_record}

abbrev pub Numbered : Type 0
Numbered = List (ℕ × Bytes)

abbrev pub line_in : Numbered → ℕ → Option (ℕ × Bytes)
line_in lines k = slice_get (filter (λ l. not (is_no_record l.1)) lines) k

-- the line of a number is that of another one among the lines that are left
abbrev pub IsLeft : Bytes → ℕ → Numbered → ℕ → Type 0
IsLeft text number rest left = (lines : List Bytes) × AreLines text lines × (line_in rest left ≡ line_in (enumerate_from 1 lines) number)
