-- The names that words spell, and the words that they are printed as.
use Rattle.std.specs.Prelude.{◌≡◌, ◌==◌, ◌&&◌, ◌++◌, ◌+◌, ◌-◌, ◌*◌, ◌/◌, ◌%◌, ◌^◌, ℕ, Bool, [], ◌∷◌, length, take, drop, replicate, slice_index, nat_le, nat_lt, Option, Some, None, option_map, Result, Ok, Err, if◌then◌else◌}
use Rattle.std.specs.Int.{w64, to_be_bytes, from_be_bytes}
use Rattle.scp_types.specs.Trees.{IsName}
use Rattle.hex.specs.Hex.{decode_of, encode_lower}
use Rattle.hex.specs.declared.error.FromHexError.{FromHexError}
use Rattle.line_script.specs.Script.{Bytes}
use Rattle.line_script.specs.Values.{is_plain, is_lower_hex}

-- ---- names and their bytes

-- the 32 bytes of a name: four words of 64 bits
unfoldable pub bytes_of_name : ℕ → Bytes
bytes_of_name u =
    to_be_bytes w64 (u / 2 ^ 192)
    ++ (to_be_bytes w64 (u / 2 ^ 128 % 2 ^ 64) ++ (to_be_bytes w64 (u / 2 ^ 64 % 2 ^ 64) ++ to_be_bytes w64 (u % 2 ^ 64)))

-- the number of the eight bytes from a place on
abbrev pub long_at : Bytes → ℕ → ℕ
long_at bytes from = from_be_bytes w64 (take 8 (drop from bytes))

-- the name of 32 bytes
unfoldable pub name_of_bytes : Bytes → ℕ
name_of_bytes bytes =
    long_at bytes 0 * 2 ^ 192 + long_at bytes 8 * 2 ^ 128 + long_at bytes 16 * 2 ^ 64 + long_at bytes 24

-- ---- printed

-- the bytes of a name without the zero bytes at its end
abbrev pub short : Bytes → Bytes
short [] = []
short (b ∷ more) = if (length (short more) == 0) && (b == 0) then [] else b ∷ short more

abbrev pub is_short_name : Bytes → Bool
is_short_name front = nat_lt 0 (length front) && is_plain front

-- the bytes of a name in words: letters and digits if there are such, else hexadecimal digits
abbrev pub text_of_bytes : Bytes → Bytes
text_of_bytes bytes = if is_short_name (short bytes) then short bytes else encode_lower bytes

-- the word that a name is printed as
abbrev pub text_of_name : ℕ → Bytes
text_of_name u = text_of_bytes (bytes_of_name u)

-- ---- read

-- up to 32 bytes as a name: with zero bytes after them, up to 32
abbrev pub name_with_zeros : Bytes → Bytes
name_with_zeros front = front ++ replicate (32 - length front) 0

-- the bytes that were decoded
abbrev pub bytes_of_result : Result Bytes FromHexError → Option Bytes
bytes_of_result (Ok bytes) = Some bytes
bytes_of_result (Err e) = None

-- the bytes that lower-case hexadecimal digits spell
abbrev pub digits_bytes : Bytes → Option Bytes
digits_bytes digits = if is_lower_hex digits then bytes_of_result (decode_of digits) else None

-- the bytes that a word spells: only `-` (45) for none, else digits
abbrev pub octets_in : Bytes → Option Bytes
octets_in word =
    if length word == 0 then None
    else if (length word == 1) && (slice_index word 0 == 45) then Some []
    else digits_bytes word

-- the bytes of the name that a word spells: 64 lower-case hexadecimal digits, or one to 32 letters or digits, which
-- stand for themselves with zero bytes after them
abbrev pub word_bytes : Bytes → Option Bytes
word_bytes word =
    if length word == 64 then digits_bytes word
    else if is_short_name word && nat_le (length word) 32 then Some (name_with_zeros word)
    else None

-- the name that a word spells
abbrev pub word_name : Bytes → Option ℕ
word_name word = option_map name_of_bytes (word_bytes word)

-- each name is what its printed word is read as
abbrev pub NamesReadBack : Type 0
NamesReadBack = (u : ℕ) → IsName u → word_name (text_of_name u) ≡ Some u
