-- What a reader with a limit gives, where it stops short of the limit, is all that there was.
use Rattle.std.proofs.Common.{◌≡◌, ◌∙◌, ℕ, ◌<◌, List, [], ◌++◌, ap, arith, length, take}
use Rattle.std.specs.Prelude.{Option, Some, None, IfSome, option_map, min}
use Rattle.std.proofs.lemmas.List.{take_all, length-take}

pub whole_below_limit : (limit : ℕ) (known : Option (List ℕ)) (start bytes : List ℕ) → start ≡ []
    → IfSome (option_map (take limit) known) (λ xs. bytes ≡ start ++ xs) → length bytes < limit
    → IfSome known (λ xs. bytes ≡ xs)
whole_below_limit limit None start bytes empty given short = tt
whole_below_limit limit (Some xs) start bytes empty given short =
    let all : bytes ≡ take limit xs = given ∙ ap (λ front. front ++ take limit xs) empty in
    let count : length bytes ≡ min limit (length xs) = ap length all ∙ length-take limit xs in
    all ∙ take_all limit xs (omega arith)
