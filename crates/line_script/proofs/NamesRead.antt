-- A name is read back from the word that it is printed as.
use Rattle.std.proofs.Common.{◌≡◌, ◌∙◌, ℕ, zero, suc, ◌+◌, ◌-◌, ◌*◌, ◌/◌, ◌%◌, ◌^◌, ◌<◌, ◌≤◌, Bool, true, false, cond, [], ◌∷◌, ◌++◌, length, take, drop, refl, sym, ap, arith, append_assoc, ne_eqb, length-append}
use Rattle.std.specs.Prelude.{◌==◌, ◌&&◌, nat_le, replicate, option_map, Some}
use Rattle.std.specs.Int.{w64, byte_at, bytes_high_first, to_be_bytes, from_be_bytes}
use Rattle.std.proofs.Math.Seq.{take-append_seam, drop-append_seam}
use Rattle.std.proofs.lemmas.Bool.{eq-eqb}
use Rattle.std.proofs.lemmas.Bool.Decides.{nat_tests}
use Rattle.std.proofs.lemmas.Nat.{from_be_bytes-to_be_bytes_8}
use Rattle.scp_types.specs.Trees.{IsName}
use Rattle.hex.specs.Hex.{IsBytes, encode_lower, lower_digits}
use Rattle.hex.proofs.HexLemmas.{length-encode_with}
use Rattle.line_script.specs.Script.{Bytes}
use Rattle.line_script.specs.Names.{bytes_of_name, name_of_bytes, short, is_short_name, text_of_bytes, text_of_name, word_bytes, word_name}
use Rattle.line_script.proofs.DigitLaws.{digits_read, both_bytes}
use Rattle.line_script.proofs.RunLaws.{append_nothing}

-- ---- the zero bytes come back

pub short_le : (bytes : Bytes) → length (short bytes) ≤ length bytes
short_le [] = omega arith
short_le (b ∷ more) = go ((length (short more) == 0) && (b == 0)) (short_le more)
  where
    go : (none : Bool) → length (short more) ≤ length more → length (cond none [] (b ∷ short more)) ≤ suc (length more)
    go true h = omega arith
    go false h = omega arith

none_off : (more : Bytes) → replicate {A = ℕ} (length more - 0) 0 ≡ replicate (length more) 0
none_off more = let same : length more - 0 ≡ length more = omega arith in ap (λ n. replicate {A = ℕ} n 0) same

-- the empty front of zero bytes
none_left : (s more : Bytes) (b : ℕ) → ((length s == 0) && (b == 0)) ≡ true → s ++ replicate (length more - length s) 0 ≡ more → b ∷ more ≡ replicate (suc (length more)) 0
none_left [] more zero e h = ap (λ bs. 0 ∷ bs) (sym h ∙ none_off more)
none_left [] more (suc b) e h =
    let some : (suc b == 0) ≡ false = ne_eqb (suc b) 0 (omega arith) in
    let never : false ≡ true = rw some at e in cc never
none_left (x ∷ s) more b e h =
    let some : (length (x ∷ s) == 0) ≡ false = ne_eqb (length (x ∷ s)) 0 (omega arith) in
    let never : false ≡ true = rw some at e in cc never

pub short_padded : (bytes : Bytes) → short bytes ++ replicate (length bytes - length (short bytes)) 0 ≡ bytes
short_padded [] = refl
short_padded (b ∷ more) = go ((length (short more) == 0) && (b == 0)) refl (short_padded more)
  where
    go : (none : Bool) → ((length (short more) == 0) && (b == 0)) ≡ none → short more ++ replicate (length more - length (short more)) 0 ≡ more
        → cond none [] (b ∷ short more) ++ replicate (suc (length more) - length (cond none [] (b ∷ short more))) 0 ≡ b ∷ more
    go true e h =
        let all : suc (length more) - 0 ≡ suc (length more) = omega arith in
        ap (λ n. replicate {A = ℕ} n 0) all ∙ sym (none_left (short more) more b e h)
    go false e h =
        let left : suc (length more) - suc (length (short more)) ≡ length more - length (short more) = omega arith in
        rw left (ap (λ bs. b ∷ bs) h)

-- ---- the bytes are read back

short_read : (bytes front : Bytes) → length bytes ≡ 32 → length front ≤ 32 → is_short_name front ≡ true → front ++ replicate (32 - length front) 0 ≡ bytes → word_bytes front ≡ Some bytes
short_read bytes front wide within named back =
    let other : (length front == 64) ≡ false = ne_eqb (length front) 64 (omega arith) in
    let fits : nat_le (length front) 32 ≡ true = grind (arith, nat_tests) in
    rw (other, named, fits, back) refl

long_read : (bytes : Bytes) → length bytes ≡ 32 → IsBytes bytes → word_bytes (encode_lower bytes) ≡ Some bytes
long_read bytes wide fits =
    let same : (length (encode_lower bytes) == 64) ≡ true = eq-eqb (length (encode_lower bytes)) 64 (omega (arith, length-encode_with lower_digits bytes)) in
    rw (same, digits_read bytes fits) refl

pub bytes_read : (bytes : Bytes) → length bytes ≡ 32 → IsBytes bytes → word_bytes (text_of_bytes bytes) ≡ Some bytes
bytes_read bytes wide fits = go (is_short_name (short bytes)) refl
  where
    go : (named : Bool) → is_short_name (short bytes) ≡ named → word_bytes (cond named (short bytes) (encode_lower bytes)) ≡ Some bytes
    go true e =
        let back : short bytes ++ replicate (32 - length (short bytes)) 0 ≡ bytes = rw wide at (short_padded bytes) in
        short_read bytes (short bytes) wide (omega (arith, wide, short_le bytes)) e back
    go false e = long_read bytes wide fits

-- ---- a name and its bytes

below : (n : ℕ) → n % 256 < 256
below n = omega arith

byte_fits : (i n : ℕ) → byte_at i n < 256
byte_fits zero n = below n
byte_fits (suc i) n = below (n / 256 ^ suc i)

high_fits : (k n : ℕ) → IsBytes (bytes_high_first k n)
high_fits zero n i = omega arith
high_fits (suc k) n zero = byte_fits k n
high_fits (suc k) n (suc i) = high_fits k n i

abbrev word : ℕ → Bytes
word n = to_be_bytes w64 n

word_fits : (n : ℕ) → IsBytes (word n)
word_fits n = high_fits 8 n

name_wide : (u : ℕ) → length (bytes_of_name u) ≡ 32
unfolding bytes_of_name
name_wide u = refl

name_fits : (u : ℕ) → IsBytes (bytes_of_name u)
unfolding bytes_of_name
name_fits u =
    let last = both_bytes (word (u / 2 ^ 64 % 2 ^ 64)) (word (u % 2 ^ 64)) (word_fits (u / 2 ^ 64 % 2 ^ 64)) (word_fits (u % 2 ^ 64)) in
    let more = both_bytes (word (u / 2 ^ 128 % 2 ^ 64)) (word (u / 2 ^ 64 % 2 ^ 64) ++ word (u % 2 ^ 64)) (word_fits (u / 2 ^ 128 % 2 ^ 64)) last in
    both_bytes (word (u / 2 ^ 192)) (word (u / 2 ^ 128 % 2 ^ 64) ++ (word (u / 2 ^ 64 % 2 ^ 64) ++ word (u % 2 ^ 64))) (word_fits (u / 2 ^ 192)) more

-- a part of eight bytes
part_at : (before part after : Bytes) (n : ℕ) → length before ≡ n → length part ≡ 8 → take 8 (drop n (before ++ (part ++ after))) ≡ part
part_at before part after n e f =
    rw (← e, drop-append_seam before (part ++ after), ← f) (take-append_seam part after)

joined : (num : Bytes → ℕ) (p q r s a b c d : Bytes) → p ≡ a → q ≡ b → r ≡ c → s ≡ d
    → num p * 2 ^ 192 + num q * 2 ^ 128 + num r * 2 ^ 64 + num s ≡ num a * 2 ^ 192 + num b * 2 ^ 128 + num c * 2 ^ 64 + num d
joined num p q r s a b c d e f g h = rw (e, f, g, h) refl

four_parts : (a b c d : Bytes) → length a ≡ 8 → length b ≡ 8 → length c ≡ 8 → length d ≡ 8
    → name_of_bytes (a ++ (b ++ (c ++ d))) ≡ from_be_bytes w64 a * 2 ^ 192 + from_be_bytes w64 b * 2 ^ 128 + from_be_bytes w64 c * 2 ^ 64 + from_be_bytes w64 d
unfolding name_of_bytes
four_parts a b c d e f g h =
    let whole = a ++ (b ++ (c ++ d)) in
    let third : take 8 (drop 16 whole) ≡ c =
    ap (λ bytes. take 8 (drop 16 bytes)) (sym (append_assoc a b (c ++ d))) ∙ part_at (a ++ b) c d 16 (omega (arith, length-append a b)) g in
    let fourth : take 8 (drop 24 whole) ≡ d =
    ap (λ bytes. take 8 (drop 24 bytes)) (sym (ap (λ bytes. (a ++ (b ++ c)) ++ bytes) (append_nothing d) ∙ append_assoc a (b ++ c) d ∙ ap (λ bytes. a ++ bytes) (append_assoc b c d)))
    ∙ part_at (a ++ (b ++ c)) d [] 24 (omega (arith, length-append a (b ++ c), length-append b c)) h in
    joined (from_be_bytes w64) _ _ _ _ a b c d (part_at [] a (b ++ (c ++ d)) 0 refl e) (part_at a b (c ++ d) 8 e f) third fourth

words_again : (num : Bytes → ℕ) (wide : ℕ → Bytes) (back : (n : ℕ) → n < 2 ^ 64 → num (wide n) ≡ n) (u : ℕ) → u < 2 ^ 256
    → num (wide (u / 2 ^ 192)) * 2 ^ 192 + num (wide (u / 2 ^ 128 % 2 ^ 64)) * 2 ^ 128 + num (wide (u / 2 ^ 64 % 2 ^ 64)) * 2 ^ 64 + num (wide (u % 2 ^ 64)) ≡ u
words_again num wide back u h =
    rw (back (u / 2 ^ 192) (omega arith), back (u / 2 ^ 128 % 2 ^ 64) (omega arith), back (u / 2 ^ 64 % 2 ^ 64) (omega arith), back (u % 2 ^ 64) (omega arith)) (omega arith)

pub name_again : (u : ℕ) → IsName u → name_of_bytes (bytes_of_name u) ≡ u
unfolding bytes_of_name
name_again u h =
    four_parts (word (u / 2 ^ 192)) (word (u / 2 ^ 128 % 2 ^ 64)) (word (u / 2 ^ 64 % 2 ^ 64)) (word (u % 2 ^ 64)) refl refl refl refl
    ∙ words_again (from_be_bytes w64) (to_be_bytes w64) (λ n lt. from_be_bytes-to_be_bytes_8 n lt) u h

pub names_read_back : (u : ℕ) → IsName u → word_name (text_of_name u) ≡ Some u
names_read_back u h = ap (option_map name_of_bytes) (bytes_read (bytes_of_name u) (name_wide u) (name_fits u)) ∙ ap (λ v. Some v) (name_again u h)
