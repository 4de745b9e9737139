-- Bytes that are printed as hexadecimal digits are read back, and what digits spell is bytes.
use Rattle.std.proofs.Common.{◌≡◌, ◌∙◌, ℕ, zero, suc, ◌/◌, ◌%◌, ◌<◌, Bool, true, false, [], ◌∷◌, ◌++◌, length, refl, ap, subst, arith, inl, inr}
use Rattle.std.specs.Prelude.{◌&&◌, ◌==◌, slice_index, Some, None, Result, Ok, Err, if◌then◌else◌}
use Rattle.std.proofs.lemmas.Bool.{cases_lt}
use Rattle.hex.specs.Hex.{IsBytes, decode_of, encode_with, encode_lower, lower_digits}
use Rattle.hex.specs.declared.error.FromHexError.{FromHexError}
use Rattle.hex.proofs.HexLemmas.{decode_of-encode_lower, decode_of-ok}
use Rattle.line_script.specs.Script.{Bytes}
use Rattle.line_script.specs.Values.{is_lower_digit, is_lower_hex}
use Rattle.line_script.specs.Names.{bytes_of_result, digits_bytes, octets_in}
use Rattle.line_script.proofs.ScriptLemmas.{both_true}

-- the first n digits are lower-case ones
abbrev all_lower : ℕ → Bool
all_lower zero = true
all_lower (suc n) = is_lower_digit (slice_index lower_digits n) && all_lower n

lower_at : (n k : ℕ) → all_lower n ≡ true → k < n → is_lower_digit (slice_index lower_digits k) ≡ true
lower_at zero k h lt = absurd (omega arith)
lower_at (suc n) k h lt =
    let both = both_true (is_lower_digit (slice_index lower_digits n)) (all_lower n) h in
    elim (cases_lt k n) [
      | inl below ↦ lower_at n k both.1 below
      | inr top ↦
          let e : k ≡ n = omega arith in
          rw e both.0
    ]

pub digits_lower : (bytes : Bytes) → IsBytes bytes → is_lower_hex (encode_lower bytes) ≡ true
unfolding encode_with
digits_lower [] h = refl
digits_lower (b ∷ more) h =
    let fits : b < 256 = h 0 in
    rw (lower_at 16 (b / 16) refl (omega arith), lower_at 16 (b % 16) refl (omega arith)) (digits_lower more (λ k. h (suc k)))

pub digits_read : (bytes : Bytes) → IsBytes bytes → digits_bytes (encode_lower bytes) ≡ Some bytes
digits_read bytes h = rw (digits_lower bytes h, decode_of-encode_lower bytes h) refl

pub both_bytes : (xs ys : Bytes) → IsBytes xs → IsBytes ys → IsBytes (xs ++ ys)
both_bytes [] ys h k i = k i
both_bytes (x ∷ xs) ys h k zero = h 0
both_bytes (x ∷ xs) ys h k (suc i) = both_bytes xs ys (λ j. h (suc j)) k i

-- digits spell bytes: numbers below 256
digits_fit : (digits bytes : Bytes) → digits_bytes digits ≡ Some bytes → IsBytes bytes
digits_fit digits bytes e = go (is_lower_hex digits) (decode_of digits) refl e
  where
    go : (lower : Bool) (r : Result Bytes FromHexError) → decode_of digits ≡ r → (if lower then bytes_of_result r else None) ≡ Some bytes → IsBytes bytes
    go true (Ok found) p q = let same : found ≡ bytes = cc in (decode_of-ok digits bytes (p ∙ ap Ok same)).3
    go true (Err f) p q = cc
    go false r p q = cc

-- and so does a word of them
pub octets_fit : (word bytes : Bytes) → octets_in word ≡ Some bytes → IsBytes bytes
octets_fit word bytes e = go (length word == 0) ((length word == 1) && (slice_index word 0 == 45)) e
  where
    go : (none dash : Bool) → (if none then None else if dash then Some [] else digits_bytes word) ≡ Some bytes → IsBytes bytes
    go true dash q = cc
    go false true q = let same : [] ≡ bytes = cc in subst IsBytes same (λ i. omega arith)
    go false false q = digits_fit word bytes q
