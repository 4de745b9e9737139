-- A value is read back from the word that it is printed as.
use Rattle.std.proofs.Common.{◌≡◌, ℕ, ◌<◌, ◌≤◌, Bool, true, false, cond, [], ◌∷◌, length, refl, arith, ne_eqb}
use Rattle.std.specs.Prelude.{◌==◌, nat_lt, Some}
use Rattle.std.specs.List.{list_all}
use Rattle.std.specs.Char.{is_ascii_alphanumeric}
use Rattle.std.proofs.lemmas.Bool.{eqb-true}
use Rattle.std.proofs.lemmas.Bool.Decides.{nat_tests}
use Rattle.hex.specs.Hex.{IsBytes, encode_lower}
use Rattle.hex.proofs.HexLemmas.{decode_of-encode_lower}
use Rattle.line_script.specs.Script.{Bytes}
use Rattle.line_script.specs.Values.{is_plain, value_in, text_of_value, word_value}
use Rattle.line_script.proofs.ScriptLemmas.{both_true}
use Rattle.line_script.proofs.DigitLaws.{digits_lower}

value_fits : (v : Bytes) → 0 < length v → length v ≤ 256 → value_in v ≡ Some v
value_fits v some few =
    let one : (length v == 0) ≡ false = ne_eqb (length v) 0 (omega arith) in
    let most : nat_lt 256 (length v) ≡ false = grind (arith, nat_tests) in
    rw (one, most) refl

-- `#` is neither a letter nor a digit
no_mark : (c : ℕ) (mark : Bool) → (c == 35) ≡ mark → is_ascii_alphanumeric c ≡ true → mark ≡ false
no_mark c true e h =
    let is : c ≡ 35 = eqb-true c 35 e in
    let never : false ≡ true = rw is at h in cc never
no_mark c false e h = refl

plain_read : (v : Bytes) → 0 < length v → length v ≤ 256 → is_plain v ≡ true → word_value v ≡ Some v
plain_read [] some few plain = absurd (omega arith)
plain_read (c ∷ rest) some few plain =
    let letter = both_true (is_ascii_alphanumeric c) (list_all is_ascii_alphanumeric rest) plain in
    let other : (c == 35) ≡ false = no_mark c (c == 35) refl letter.0 in
    rw (other, plain) (value_fits (c ∷ rest) some few)

marked_read : (v : Bytes) → 0 < length v → length v ≤ 256 → IsBytes v → word_value (35 ∷ encode_lower v) ≡ Some v
marked_read v some few fits = rw (digits_lower v fits, decode_of-encode_lower v fits) (value_fits v some few)

pub values_read_back : (v : Bytes) → 0 < length v → length v ≤ 256 → IsBytes v → word_value (text_of_value v) ≡ Some v
values_read_back v some few fits = go (is_plain v) refl
  where
    go : (plain : Bool) → is_plain v ≡ plain → word_value (cond plain v (35 ∷ encode_lower v)) ≡ Some v
    go true e = plain_read v some few e
    go false e = marked_read v some few fits
