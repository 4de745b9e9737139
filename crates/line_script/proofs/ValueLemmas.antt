-- Words of values: what the code looks at, and what they spell.
use Rattle.std.proofs.Common.{◌≡◌, ℕ, ◌/◌, ◌%◌, ◌<◌, Bool, true, false, cond, ltb, eqb, eq-eqb, List, length, Some, None, Result, Ok, Err, refl, arith}
use Rattle.std.proofs.lemmas.Bool.{lt-ltb}
use Rattle.hex.specs.Hex.{decode_of, decode_sized, decode_pairs}
use Rattle.hex.specs.declared.error.FromHexError.{FromHexError}
use Rattle.hex.specs.declared.error.FromHexError.TheVariants.{OddLength, InvalidStringLength}
use Rattle.hex.proofs.HexLemmas.{decode_pairs-ok}
use Rattle.line_script.specs.Values.{is_lower_hex, value_in, value_decoded, digits_value}

-- room for half as many bytes is right
pub sized : (digits : List ℕ) → decode_sized digits (length digits / 2) ≡ decode_of digits
sized digits = go (eqb (length digits % 2) 1) (decode_pairs 0 digits)
  where
    go : (odd : Bool) (r : Result (List ℕ) FromHexError) → cond odd (Err OddLength) (cond (eqb (length digits / 2) (length digits / 2)) r (Err InvalidStringLength)) ≡ cond odd (Err OddLength) r
    go true r = refl
    go false r = rw (eq-eqb (length digits / 2) (length digits / 2) refl) refl

-- more than 256 bytes are no value
long_bytes : (bytes : List ℕ) → 256 < length bytes → value_in bytes ≡ None
long_bytes bytes h = go (eqb (length bytes) 0)
  where
    go : (b : Bool) → cond b None (cond (ltb 256 (length bytes)) None (Some bytes)) ≡ None
    go true = refl
    go false = rw (lt-ltb _ _ h) refl

long_decoded : (digits : List ℕ) (r : Result (List ℕ) FromHexError) → decode_pairs 0 digits ≡ r → 256 < length digits / 2 → value_decoded r ≡ None
long_decoded digits (Ok bytes) e h = long_bytes bytes (omega (arith, (decode_pairs-ok 0 digits bytes e).1))
long_decoded digits (Err f) e h = refl

-- more than twice 256 digits spell no value
pub long_digits : (digits : List ℕ) → 256 < length digits / 2 → digits_value digits ≡ None
long_digits digits h = go (is_lower_hex digits) (eqb (length digits % 2) 1)
  where
    go : (lower odd : Bool) → cond lower (value_decoded (cond odd (Err OddLength) (decode_pairs 0 digits))) None ≡ None
    go false odd = refl
    go true true = refl
    go true false = long_decoded digits (decode_pairs 0 digits) refl h
