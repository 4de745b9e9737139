-- The values that words spell, and the words that they are printed as.
use Rattle.std.specs.Prelude.{◌≡◌, ◌<◌, ◌≤◌, ℕ, Bool, ◌||◌, List, [], ◌∷◌, length, ◌==◌, nat_lt, Option, Some, None, Result, Ok, Err, if◌then◌else◌}
use Rattle.std.specs.List.{list_all}
use Rattle.std.specs.Int.{is_in_range}
use Rattle.std.specs.Char.{is_ascii_alphanumeric}
use Rattle.hex.specs.Hex.{IsBytes, decode_of, encode_lower}
use Rattle.hex.specs.declared.error.FromHexError.{FromHexError}

-- only letters and digits
abbrev pub is_plain : List ℕ → Bool
is_plain = list_all is_ascii_alphanumeric

-- a digit, or a letter from `a` to `f`
abbrev pub is_lower_digit : ℕ → Bool
is_lower_digit c = is_in_range 48 57 c || is_in_range 97 102 c

-- only lower-case hexadecimal digits
abbrev pub is_lower_hex : List ℕ → Bool
is_lower_hex = list_all is_lower_digit

-- these bytes as a value, if they are one to 256
abbrev pub value_in : List ℕ → Option (List ℕ)
value_in bytes = if length bytes == 0 then None else if nat_lt 256 (length bytes) then None else Some bytes

-- the same of bytes that were decoded
abbrev pub value_decoded : Result (List ℕ) FromHexError → Option (List ℕ)
value_decoded (Ok bytes) = value_in bytes
value_decoded (Err e) = None

-- the value that lower-case hexadecimal digits spell
abbrev pub digits_value : List ℕ → Option (List ℕ)
digits_value digits = if is_lower_hex digits then value_decoded (decode_of digits) else None

-- the value that a word spells: `#` (35) and digits, or letters and digits as they are
abbrev pub word_value : List ℕ → Option (List ℕ)
word_value [] = None
word_value (c ∷ rest) = if c == 35 then digits_value rest else if is_plain (c ∷ rest) then value_in (c ∷ rest) else None

-- the word of a value: letters and digits as they are, else `#` (35) and the digits of the bytes
abbrev pub text_of_value : List ℕ → List ℕ
text_of_value v = if is_plain v then v else 35 ∷ encode_lower v

-- each value is what its printed word is read as
abbrev pub ValuesReadBack : Type 0
ValuesReadBack = (v : List ℕ) → 0 < length v → length v ≤ 256 → IsBytes v → word_value (text_of_value v) ≡ Some v
