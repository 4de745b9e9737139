-- A text with numbers less is no longer than it was.
use Rattle.std.specs.Prelude.{◌≡◌, ◌+◌, ◌-◌, ◌*◌, ◌^◌, ◌≤◌, ◌<◌, ◌==◌, ◌∷◌, [], codes, suc, ℕ, Bool, true, false, List, length, take, drop, nat_eq, nat_lt, Option, Some, None, option_map, if◌then◌else◌}
use Rattle.std.specs.List.{AllByRecursion, position_or_len, starts_with}
use Rattle.std.proofs.Common.{◌∙◌, refl, ap, arith, cond, length-append, length-drop, length-take}
use Rattle.std.proofs.lemmas.Bool.Decides.{nat_tests}
use Rattle.std.proofs.lemmas.Fmt.{length-decimal-le}
use native.Mathlib.Nat.{mul-le-mul_left, pow-suc}
use Rattle.line_script.specs.Numbers.{IsDigit, decimal_from}
use Rattle.line_script.specs.Script.{Bytes}
use Rattle.line_script.specs.Words.{split_once, word_number}
use Rattle.line_script.proofs.NumberLaws.{tested_decimal}
use Rattle.live_feed.specs.Lasting.{less, lowered, lowered_word, lowered_words, on_words}
use Rattle.live_host.specs.Lowering.{LoweredLinesAreNoLonger}
use Rattle.live_host.proofs.LoweringWords.{read-as}

-- so many digits spell a lesser number than a 1 with so many zeros
ten-times : (n p : ℕ) → (n + 1) * (p * 10) ≡ p * (n * 10 + 10)
ten-times n p = omega arith

commuted : (m p : ℕ) → m * p ≡ p * m
commuted m p = omega arith

digits-bounded : (n : ℕ) (digits : Bytes) → AllByRecursion IsDigit digits
    → decimal_from n digits < (n + 1) * 10 ^ length digits
digits-bounded n [] are = omega arith
digits-bounded n (digit ∷ digits) are =
    let one = are.0 in
    let zeros : ℕ = 10 ^ length digits in
    let rest = digits-bounded (n * 10 + (digit - 48)) digits are.1 in
    let few : n * 10 + (digit - 48) + 1 ≤ n * 10 + 10 = omega (arith, one) in
    let scaled = mul-le-mul_left zeros few in
    let other = commuted (n * 10 + (digit - 48) + 1) zeros in
    let whole : (n + 1) * 10 ^ suc (length digits) ≡ zeros * (n * 10 + 10) =
    ap (λ p. (n + 1) * p) (pow-suc 10 (length digits)) ∙ ten-times n zeros in
    between _ _ _ _ _ rest other scaled whole
  where
    between : (a b c d e : ℕ) → a < b → b ≡ c → c ≤ d → e ≡ d → a < e
    between a b c d e p q r s = omega arith

pub word-no-longer : (by : ℕ) (word : Bytes) → length (lowered_word by word) ≤ length word
word-no-longer by word = step (word_number (2 ^ 64) word) refl
  where
    step : (o : Option ℕ) → word_number (2 ^ 64) word ≡ o → length (less by o word) ≤ length word
    step None read = omega arith
    step (Some n) read =
        let spelled = read-as (2 ^ 64) word n read in
        let digits = tested_decimal word spelled.decimal in
        let bounded = digits-bounded 0 word digits.digits in
        length-decimal-le (length word) (n - by) digits.some (omega (arith, spelled.is, bounded))
        (omega (arith, spelled.below))

-- the parts of a text and the space between them
pub parts-length : (text : Bytes) (parts : Bytes × Bytes) → split_once 32 text ≡ Some parts
    → length parts.0 + (1 + length parts.1) ≤ length text
parts-length text parts cut =
    step (position_or_len (λ b. b == 32) text) (nat_lt (position_or_len (λ b. b == 32) text) (length text)) refl cut
  where
    step : (n : ℕ) (within : Bool) → nat_lt n (length text) ≡ within
        → option_map {U = Bytes × Bytes} (λ m. (take m text, drop (m + 1) text)) (cond within (Some n) None) ≡ Some parts
        → length parts.0 + (1 + length parts.1) ≤ length text
    step n true below e =
        let lt : n < length text = grind (arith, nat_tests) in
        let same : (take n text, drop (n + 1) text) ≡ parts = cc in
        let one : take n text ≡ parts.0 = cc in
        let other : drop (n + 1) text ≡ parts.1 = cc in
        rw (← one, ← other) (omega (arith, length-take n text, length-drop (n + 1) text))
    step n false below e = cc

words-no-longer : (bys : List ℕ) (text : Bytes) → length (lowered_words bys text) ≤ length text
words-no-longer [] text = omega arith
words-no-longer (by ∷ more) text = step (words-no-longer more) (split_once 32 text) refl
  where
    step : ((t : Bytes) → length (lowered_words more t) ≤ length t) → (o : Option (Bytes × Bytes)) → split_once 32 text ≡ o
        → length (on_words (lowered_word by) (lowered_words more) o text) ≤ length text
    step rest None cut = word-no-longer by text
    step rest (Some parts) cut =
        let whole = parts-length text parts cut in
        let first = word-no-longer by parts.0 in
        let others = rest parts.1 in
        let both = length-append (lowered_word by parts.0) (32 ∷ lowered_words more parts.1) in
        omega (arith, whole, first, others, both)

pub lowered_lines_are_no_longer : LoweredLinesAreNoLonger
unfolding lowered
lowered_lines_are_no_longer d text =
    step (starts_with nat_eq text (codes "net ")) (starts_with nat_eq text (codes "roster "))
  where
    step : (net roster : Bool)
        → length
        (if net then lowered_words (0 ∷ 0 ∷ 0 ∷ d.events ∷ 0 ∷ d.bytes ∷ []) text
        else if roster then lowered_words (0 ∷ 0 ∷ 0 ∷ 0 ∷ 0 ∷ 0 ∷ 0 ∷ 0 ∷ 0 ∷ d.opens ∷ []) text else text)
        ≤ length text
    step true roster = words-no-longer (0 ∷ 0 ∷ 0 ∷ d.events ∷ 0 ∷ d.bytes ∷ []) text
    step false true = words-no-longer (0 ∷ 0 ∷ 0 ∷ 0 ∷ 0 ∷ 0 ∷ 0 ∷ 0 ∷ 0 ∷ d.opens ∷ []) text
    step false false = omega arith
