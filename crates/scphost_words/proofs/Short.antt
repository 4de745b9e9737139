-- Operands that are too few, or too many.
use Rattle.std.proofs.Common.{◌≡◌, ◌<◌, List, [], ◌∷◌, None, refl, map, length, arith}
use Rattle.scphost_words.specs.Words.{Text}
use Rattle.scphost_words.specs.CommandLine.{call_of, pair_asked}
use Rattle.scphost_words.specs.declared.command.Command.TheVariants as command
use Rattle.scphost_words.specs.declared.options.Options.{Options}

module _ {X : Type 0} (text : X → Text) (asked : Options) where
  pub closure_short : (xs : List X) → length xs < 4 → None ≡ call_of command.Closure asked (map text xs)
  closure_short [] lt = refl
  closure_short (a ∷ []) lt = refl
  closure_short (a ∷ b ∷ []) lt = refl
  closure_short (a ∷ b ∷ d ∷ []) lt = refl
  closure_short (a ∷ b ∷ d ∷ e ∷ more) lt = absurd (omega arith)

  pub encode_short : (xs : List X) → length xs < 4 → None ≡ call_of command.Encode asked (map text xs)
  encode_short [] lt = refl
  encode_short (a ∷ []) lt = refl
  encode_short (a ∷ b ∷ []) lt = refl
  encode_short (a ∷ b ∷ d ∷ []) lt = refl
  encode_short (a ∷ b ∷ d ∷ e ∷ more) lt = absurd (omega arith)

  pub pair_short : (xs : List X) → length xs < 5 → None ≡ pair_asked asked (map text xs)
  pair_short [] lt = refl
  pair_short (a ∷ []) lt = refl
  pair_short (a ∷ b ∷ []) lt = refl
  pair_short (a ∷ b ∷ d ∷ []) lt = refl
  pair_short (a ∷ b ∷ d ∷ e ∷ []) lt = refl
  pair_short (a ∷ b ∷ d ∷ e ∷ f ∷ more) lt = absurd (omega arith)
