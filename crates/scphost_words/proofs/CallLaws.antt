-- Words behind the name of a command, as a call.
use Rattle.std.proofs.Common.{◌≡◌, ◌∙◌, ◌-◌, ◌≤◌, List, [], ◌∷◌, Some, ap, arith, drop, get_or, length, map, sym, subst, take}
use Rattle.std.proofs.lemmas.List.{take_all}
use Rattle.scphost_words.specs.Words.{Text}
use Rattle.scphost_words.specs.Commands.{command_in}
use Rattle.scphost_words.specs.CommandLine.{IsCall, call_of}
use Rattle.scphost_words.specs.Options.{HasForm}
use Rattle.scphost_words.specs.declared.call.Call.{Call}
use Rattle.scphost_words.specs.declared.command.Command.{Command}
use Rattle.scphost_words.specs.declared.options.Options.{Options}

-- words are the first one and those behind it
pub first_and_rest : {X : Type 0} (text : X → Text) (words : List X) (first : X) (name : Text) → first ≡ get_or words 0 first → name ≡ text first
    → 1 ≤ length words → map text words ≡ name ∷ map text (take (length words - 1) (drop 1 words))
first_and_rest text [] first name is named le = absurd (omega (arith, le))
first_and_rest text (x ∷ xs) first name is named le =
    let count : length (x ∷ xs) - 1 ≡ length xs = omega arith in
    let all : take (length (x ∷ xs) - 1) xs ≡ xs = ap (λ n. take n xs) count ∙ take_all (length xs) xs (omega arith) in
    let name_is : text x ≡ name = ap text (sym is) ∙ sym named in
    ap (λ w. w ∷ map text xs) name_is ∙ ap (λ ws. name ∷ map text ws) (sym all)

-- what was made is a call
pub call_sound : (words rest operands : List Text) (name : Text) (c : Command) (asked : Options) (call : Call) → HasForm c rest asked operands
    → command_in name ≡ Some c → words ≡ name ∷ rest → call_of c asked operands ≡ Some call → IsCall words call
call_sound words rest operands name c asked call form named is made =
    subst (λ ws. IsCall ws call) (sym is) (c, asked, operands, named, form, made)

-- the words are no other call
pub call_only : (words rest operands : List Text) (name : Text) (c : Command) (asked : Options) (call : Call)
    → ((other : Options) (more : List Text) → HasForm c rest other more → (asked ≡ other) × (operands ≡ more))
    → command_in name ≡ Some c → words ≡ name ∷ rest → IsCall words call → call_of c asked operands ≡ Some call
call_only words rest operands name c asked call all named is fits =
    let (c', other, more, named', form, made) = subst (λ ws. IsCall ws call) is fits in
    let both_named : Some c' ≡ Some c = sym named' ∙ named in
    let c_is : c' ≡ c = cc in
    let same = all other more (subst (λ k. HasForm k rest other more) c_is form) in
    subst (λ ws. call_of c asked ws ≡ Some call) (sym same.1)
    (subst (λ o. call_of c o more ≡ Some call) (sym same.0) (subst (λ k. call_of k other more ≡ Some call) c_is made))

-- the words are no call
pub no_call : (words rest : List Text) (name : Text) (c : Command) (call : Call)
    → ((other : Options) (more : List Text) → HasForm c rest other more → ⊥) → command_in name ≡ Some c → words ≡ name ∷ rest
    → IsCall words call → ⊥
no_call words rest name c call none named is fits =
    let (c', other, more, named', form, made) = subst (λ ws. IsCall ws call) is fits in
    let both_named : Some c' ≡ Some c = sym named' ∙ named in
    let c_is : c' ≡ c = cc in
    none other more (subst (λ k. HasForm k rest other more) c_is form)
