-- Names: the zero bytes at their end, the words that they are printed as, and that these are read back.
use Rattle.std.proofs.Common.{◌≡◌, ◌≢◌, ◌∙◌, ℕ, zero, suc, ◌+◌, ◌-◌, ◌*◌, ◌^◌, ◌<◌, false, [], ◌∷◌, ◌++◌, length, take, drop, get_or, refl, sym, ap, arith, ne_eqb}
use Rattle.std.specs.Prelude.{◌==◌, replicate}
use Rattle.std.specs.Int.{w64, to_be_bytes}
use Rattle.std.proofs.lemmas.List.{drop-replicate}
use borrow.Rule.Slice.PartMut.{put_mid}
use Rattle.scp_types.proofs.NameWords.{first_word, second_word, third_word, fourth_word}
use Rattle.line_script.proofs.StreamLaws.{in_two}
use Rattle.line_script.specs.Script.{Bytes}
use Rattle.line_script.specs.Names.{short, name_with_zeros, bytes_of_name}

-- ---- zero bytes at the end

-- one more at the end
pub short_zero : (bytes : Bytes) → short (bytes ++ 0 ∷ []) ≡ short bytes
short_zero [] = refl
short_zero (b ∷ more) = rw (short_zero more) refl

-- bytes of which the last is no zero
short_last : (bytes : Bytes) (n : ℕ) → length bytes ≡ n + 1 → get_or bytes n 0 ≢ 0 → short bytes ≡ bytes
short_last [] n e h = refl
short_last (b ∷ []) zero e h = let other : (b == 0) ≡ false = ne_eqb b 0 h in rw other refl
short_last (b ∷ []) (suc n) e h = absurd (omega arith)
short_last (b ∷ c ∷ more) zero e h = absurd (omega arith)
short_last (b ∷ c ∷ more) (suc n) e h =
    let some : (length (c ∷ more) == 0) ≡ false = ne_eqb (length (c ∷ more)) 0 (omega arith) in
    rw (short_last (c ∷ more) n (omega arith) h, some) refl

pub short_all : (bytes : Bytes) → (0 < length bytes → get_or bytes (length bytes - 1) 0 ≢ 0) → short bytes ≡ bytes
short_all [] h = refl
short_all (b ∷ more) h = short_last (b ∷ more) (length (b ∷ more) - 1) (omega arith) (h (omega arith))

-- bytes of which the last is a zero
pub short_front : (bytes result : Bytes) → 0 < length bytes → get_or bytes (length bytes - 1) 0 ≡ 0 → result ≡ short (take (length bytes - 1) bytes) → result ≡ short bytes
short_front bytes result some last e =
    e ∙ sym (short_zero (take (length bytes - 1) bytes)) ∙ ap (λ b. short (take (length bytes - 1) bytes ++ b ∷ [])) (sym last) ∙ ap short (sym (in_two bytes some))

pub zeros_behind : (front copied : Bytes) → copied ≡ front → copied ++ drop (length front) (replicate 32 0) ≡ name_with_zeros front
zeros_behind front copied e = rw (e, drop-replicate {X = ℕ} (length front) 32 0) refl

-- ---- the bytes of a name

-- the bytes of a name of four words are those of the words
name_text : (a b c d : ℕ) → b < 2 ^ 64 → c < 2 ^ 64 → d < 2 ^ 64
    → bytes_of_name (a * 2 ^ 192 + b * 2 ^ 128 + c * 2 ^ 64 + d) ≡ to_be_bytes w64 a ++ (to_be_bytes w64 b ++ (to_be_bytes w64 c ++ to_be_bytes w64 d))
unfolding bytes_of_name
name_text a b c d g h k =
    rw (first_word a b c d g h k, second_word a b c d g h k, third_word a b c d g h k, fourth_word a b c d g h k) refl

-- the words that are put into 32 bytes
pub name_put : (u a b c d : ℕ) (first second third fourth : Bytes) → a * 2 ^ 192 + b * 2 ^ 128 + c * 2 ^ 64 + d ≡ u → b < 2 ^ 64 → c < 2 ^ 64 → d < 2 ^ 64
    → first ≡ to_be_bytes w64 a → second ≡ to_be_bytes w64 b → third ≡ to_be_bytes w64 c → fourth ≡ to_be_bytes w64 d
    → put_mid 24 8 (put_mid 16 8 (put_mid 8 8 (first ++ replicate 24 0) second) third) fourth ≡ bytes_of_name u
name_put u a b c d first second third fourth value g h k e f i j = rw (e, f, i, j) (sym (name_text a b c d g h k) ∙ ap bytes_of_name value)
