-- Lower-case hexadecimal digits are those of the bytes that they spell.
use Rattle.std.proofs.Common.{◌≡◌, ◌≢◌, ◌∙◌, ℕ, zero, suc, ◌+◌, ◌*◌, ◌/◌, ◌%◌, ◌<◌, Bool, true, false, List, [], ◌∷◌, length, refl, sym, ap, subst, arith}
use Rattle.std.specs.Prelude.{◌&&◌, ◌==◌, slice_index, Option, Some, None, Result, Ok, Err, if◌then◌else◌}
use Rattle.std.proofs.lemmas.Bool.Decides.{nat_tests}
use Rattle.std.specs.Result.{result_unwrap_or}
use Rattle.hex.specs.Hex.{IsBytes, decode_of, decode_pairs, digit_or_error, encode_lower, encode_with, hex_digit_value, lower_digits, pair_value, value_at, ◌>>=◌}
use Rattle.hex.specs.declared.error.FromHexError.{FromHexError}
use Rattle.hex.proofs.HexLemmas.{IsDigits-lower_digits, decode_of-even, decode_of-ok}
use Rattle.scp_types.proofs.Bools.{both}
use Rattle.line_script.specs.Script.{Bytes}
use Rattle.line_script.specs.Names.{bytes_of_result, digits_bytes, octets_in}
use Rattle.line_script.specs.Values.{is_lower_digit, is_lower_hex}
use Rattle.line_script.proofs.DigitLaws.{digits_lower}

-- ---- one digit

one_byte : (d : ℕ) → d < 16 → IsBytes (d ∷ [])
one_byte d h = λ i. go i
  where
    go : (i : ℕ) → slice_index (d ∷ []) i < 256
    go zero = omega arith
    go (suc i) = omega arith

-- the digit at a place is a lower-case one
lower_at : (d : ℕ) → d < 16 → is_lower_digit (slice_index lower_digits d) ≡ true
unfolding encode_with
lower_at d h =
    let all = digits_lower (d ∷ []) (one_byte d h) in
    let rest = (both (is_lower_digit (slice_index lower_digits (d / 16))) (is_lower_digit (slice_index lower_digits (d % 16)) && true) all).1 in
    let low : d % 16 ≡ d = omega arith in
    subst (λ n. is_lower_digit (slice_index lower_digits n) ≡ true) low (both (is_lower_digit (slice_index lower_digits (d % 16))) true rest).0

-- lower-case digits with one value are one digit
one_digit : (a b v : ℕ) → is_lower_digit a ≡ true → is_lower_digit b ≡ true → hex_digit_value a ≡ Some v → hex_digit_value b ≡ Some v → a ≡ b
one_digit a b v e f g h = grind (arith, nat_tests)

small : (c v : ℕ) → hex_digit_value c ≡ Some v → v < 16
small c v h = grind (arith)

digit_back : (c v : ℕ) → is_lower_digit c ≡ true → hex_digit_value c ≡ Some v → slice_index lower_digits v ≡ c
digit_back c v lower is =
    let few = small c v is in
    one_digit (slice_index lower_digits v) c v (lower_at v few) lower (IsDigits-lower_digits v few) is

-- ---- pairs of digits

bind_ok : {A B : Type 0} (r : Result A FromHexError) (f : A → Result B FromHexError) (y : B) → (r >>= f) ≡ Ok y → (x : A) × (r ≡ Ok x) × (f x ≡ Ok y)
bind_ok (Ok x) f y h = (x, refl, h)
bind_ok (Err e) f y h = cc h

value_is : (c i v : ℕ) (o : Option ℕ) → digit_or_error c i o ≡ Ok v → o ≡ Some v
value_is c i v (Some w) h = ap Some (ap (λ (r : Result ℕ FromHexError). result_unwrap_or r 0) h)
value_is c i v None h = cc h

pairs_back : (i : ℕ) (digits bytes : Bytes) → decode_pairs i digits ≡ Ok bytes → is_lower_hex digits ≡ true → encode_lower bytes ≡ digits
unfolding decode_pairs encode_with
pairs_back i [] bytes h lower =
    let e : [] ≡ bytes = ap (λ (r : Result (List ℕ) FromHexError). result_unwrap_or r []) h in
    subst (λ bs. encode_lower bs ≡ []) e refl
pairs_back i (a ∷ []) bytes h lower = cc h
pairs_back i (a ∷ b ∷ rest) bytes h lower =
    let (v, pair, more) = bind_ok (pair_value a b i) _ bytes h in
    let (x, first, then_second) = bind_ok (value_at a i) _ v pair in
    let (y, second, whole) = bind_ok (value_at b (i + 1)) _ v then_second in
    let (bs, read, all) = bind_ok (decode_pairs (i + 2) rest) _ bytes more in
    let a_is = value_is a i x (hex_digit_value a) first in
    let b_is = value_is b (i + 1) y (hex_digit_value b) second in
    let x_few = small a x a_is in
    let y_few = small b y b_is in
    let lowers = both (is_lower_digit a) (is_lower_digit b && is_lower_hex rest) lower in
    let last = both (is_lower_digit b) (is_lower_hex rest) lowers.1 in
    let v_is : x * 16 + y ≡ v = ap (λ (r : Result ℕ FromHexError). result_unwrap_or r 0) whole in
    let bytes_are : v ∷ bs ≡ bytes = ap (λ (r : Result (List ℕ) FromHexError). result_unwrap_or r []) all in
    let high : v / 16 ≡ x = omega arith in
    let low : v % 16 ≡ y = omega arith in
    let high_back : slice_index lower_digits (v / 16) ≡ a = ap (slice_index lower_digits) high ∙ digit_back a x lowers.0 a_is in
    let low_back : slice_index lower_digits (v % 16) ≡ b = ap (slice_index lower_digits) low ∙ digit_back b y last.0 b_is in
    let rest_back = pairs_back (i + 2) rest bs read last.1 in
    subst (λ bs. encode_lower bs ≡ a ∷ b ∷ rest) bytes_are (rw (high_back, low_back, rest_back) refl)

digits_back : (digits bytes : Bytes) → digits_bytes digits ≡ Some bytes → encode_lower bytes ≡ digits
digits_back digits bytes e = go (is_lower_hex digits) (decode_of digits) refl refl e
  where
    go : (lower : Bool) (r : Result Bytes FromHexError) → is_lower_hex digits ≡ lower → decode_of digits ≡ r → (if lower then bytes_of_result r else None) ≡ Some bytes → encode_lower bytes ≡ digits
    go true (Ok found) l p q =
        let same : found ≡ bytes = cc in
        let read = p ∙ ap Ok same in
        pairs_back 0 digits bytes (sym (decode_of-even digits (decode_of-ok digits bytes read).0) ∙ read) l
    go true (Err f) l p q = cc
    go false r l p q = cc

-- a word that spells some bytes is their digits
pub octets_back : (word bytes : Bytes) → octets_in word ≡ Some bytes → bytes ≢ [] → encode_lower bytes ≡ word
octets_back word bytes e some = go (length word == 0) ((length word == 1) && (slice_index word 0 == 45)) e
  where
    go : (none dash : Bool) → (if none then None else if dash then Some [] else digits_bytes word) ≡ Some bytes → encode_lower bytes ≡ word
    go true dash q = cc
    go false true q = let same : [] ≡ bytes = cc in absurd (some (sym same))
    go false false q = digits_back word bytes q
