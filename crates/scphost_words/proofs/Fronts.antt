-- What stands behind a text at the beginning of a word.
use Rattle.std.proofs.Common.{◌≡◌, ◌∙◌, ◌++◌, Option, Some, None, Bool, true, false, ap, drop, length, refl, sym, take}
use Rattle.std.specs.Prelude.{option_map}
use Rattle.std.specs.Option.{MatchOption}
use Rattle.std.specs.Borrow.{Bor}
use Rattle.std.specs.Str.{bytes_eq}
use Rattle.std.specs.Str.Pattern.{FindsTextPrefix, StripsPrefix}
use Rattle.std.proofs.Math.Seq.{take-append_seam}
use Rattle.std.proofs.lemmas.List.{take-append-drop}
use Rattle.std.proofs.lemmas.Slice.Eq.{bytes_eq-Decides}
use Rattle.scphost_words.specs.Words.{Text}
use Rattle.scphost_words.specs.Options.{behind_front}

no_front : (front word : Text) (b : Bool) → bytes_eq (take (length front) word) front ≡ b → ((rest : Text) → word ≡ front ++ rest → ⊥) → b ≡ false
no_front front word false e none = refl
no_front front word true e none =
    let front_is : take (length front) word ≡ front = (bytes_eq-Decides (take (length front) word) front).0 e in
    absurd (none (drop (length front) word) (sym (take-append-drop (length front) word) ∙ ap (λ f. f ++ drop (length front) word) front_is))

-- what `strip_prefix` answers
pub stripped : (front word : Text) (r : Option (Bor Text))
    → MatchOption r (FindsTextPrefix front word None) (λ x. StripsPrefix (FindsTextPrefix front) word x.now)
    → option_map (λ w. w.now) r ≡ behind_front front word
stripped front word None none = rw (no_front front word (bytes_eq (take (length front) word) front) refl none) refl
stripped front word (Some x) (n, found, is, all) =
    let front_is : take (length front) word ≡ front = ap (take (length front)) found.1 ∙ take-append_seam front (drop n word) in
    let same : bytes_eq (take (length front) word) front ≡ true = (bytes_eq-Decides (take (length front) word) front).1 front_is in
    let rest_is : x.now ≡ drop (length front) word = is ∙ ap (λ k. drop k word) found.0 in
    rw (same, rest_is) refl
