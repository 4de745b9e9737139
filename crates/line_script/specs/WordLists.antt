-- Lists of words, each of which spells something.
use Rattle.std.specs.Prelude.{List, [], ◌∷◌, Option, Some, option_map, option_and_then}
use Rattle.line_script.specs.Script.{Bytes}

-- what the words spell, if each spells something
abbrev pub each_word : {A : Type 0} → (Bytes → Option A) → List Bytes → Option (List A)
each_word spelled [] = Some []
each_word spelled (word ∷ more) =
    option_and_then (λ x. option_map (λ xs. x ∷ xs) (each_word spelled more)) (spelled word)
