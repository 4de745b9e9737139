-- Words of the command line as contracts see them.
use Rattle.std.specs.Prelude.{◌≡◌, ◌⊎◌, ◌==◌, ◌+◌, ℕ, Bool, true, not, List, [], ◌∷◌, codes}
use Rattle.std.specs.Prelude.{Option, Some, None, if◌then◌else◌}
use Rattle.std.specs.List.{list_all}
use Rattle.std.specs.Str.{bytes_eq}

-- a word as its bytes
abbrev pub Text : Type 0
Text = List ℕ

-- the word is no option: an option is a hyphen (45) and something after it
abbrev pub is_no_option : Text → Bool
is_no_option [] = true
is_no_option (x ∷ []) = true
is_no_option (x ∷ y ∷ more) = not (x == 45)

-- how many words stand in front of the first option
abbrev pub operand_count : List Text → ℕ
operand_count [] = 0
operand_count (word ∷ rest) = if is_no_option word then operand_count rest + 1 else 0

-- the words are these operands: none of them is an option, or `--` stands in front of them
abbrev pub AreOperands : List Text → List Text → Type 0
AreOperands words operands =
    ((words ≡ operands) × (list_all is_no_option operands ≡ true)) ⊎ (words ≡ codes "--" ∷ operands)

-- the operands that the words are, if they are some
abbrev pub operands_in : List Text → Option (List Text)
operands_in [] = Some []
operands_in (word ∷ more) = if bytes_eq word (codes "--") then Some more
    else (if list_all is_no_option (word ∷ more) then Some (word ∷ more) else None)
