-- The laws of names: four words are one number below 2 ^ 256.
use Rattle.std.proofs.Common.{◌≡◌, ℕ, append_assoc, ◌+◌, ◌*◌, ◌/◌, ◌%◌, ◌^◌, ◌<◌, List, ◌++◌, refl, ap, sym, ◌∙◌, subst, arith}
use Rattle.std.specs.Int.{w64, to_be_bytes}
use Rattle.scp_types.specs.Trees.{IsName}
use Rattle.scp_types.proofs.NameWords.{first_word, second_word, third_word, fourth_word}
use Rattle.scp_codec.specs.Formats.{NoFault, ValidThen}
use Rattle.scp_codec.specs.Steps.{number_at}
use Rattle.scp_codec.specs.Spelling.{name}
use Rattle.scp_codec.specs.Reading.{Words, name_of, name_at}
use Rattle.scp_codec.specs.Grammar.{IsLong}
use Rattle.scp_codec.proofs.FieldLaws.{wide64}
use Rattle.scp_codec.proofs.FormatLaws.{ValidAs, Laws, Laws-quiet, Laws-as, Laws-when, Laws-number}

pub Laws-long : Laws (number_at w64) (to_be_bytes w64) IsLong NoFault
Laws-long = Laws-number w64 (2 ^ 64) wide64

-- the bytes of a name that is made of four words are those of the words
pub name_text : (a b c d : ℕ) → b < 2 ^ 64 → c < 2 ^ 64 → d < 2 ^ 64 → name (a * 2 ^ 192 + b * 2 ^ 128 + c * 2 ^ 64 + d) ≡ to_be_bytes w64 a ++ (to_be_bytes w64 b ++ (to_be_bytes w64 c ++ to_be_bytes w64 d))
unfolding name
name_text a b c d g h k =
    rw (first_word a b c d g h k, second_word a b c d g h k, third_word a b c d g h k, fourth_word a b c d g h k) refl

abbrev AreWords : Words → Type 0
AreWords = ValidThen IsLong (λ a. ValidThen IsLong (λ b. ValidThen IsLong (λ c. IsLong)))

is_name : (a b c d : ℕ) → a < 2 ^ 64 → b < 2 ^ 64 → c < 2 ^ 64 → d < 2 ^ 64 → IsName (a * 2 ^ 192 + b * 2 ^ 128 + c * 2 ^ 64 + d)
is_name a b c d f g h k = omega arith

words_of : (u : ℕ) → IsName u → ValidAs AreWords name_of u
words_of u h = ((u / 2 ^ 192, (u / 2 ^ 128 % 2 ^ 64, (u / 2 ^ 64 % 2 ^ 64, u % 2 ^ 64))), (omega arith, (omega arith, (omega arith, omega arith))), omega arith)

pub Laws-name : Laws name_at name IsName NoFault
unfolding name_at
Laws-name =
    Laws-when (Laws-as (Laws-quiet Laws-long (λ a v. Laws-quiet Laws-long (λ b v. Laws-quiet Laws-long (λ c v. Laws-long)))) name_of name (λ x v. name_text x.0 x.1.0 x.1.1.0 x.1.1.1 v.1.0 v.1.1.0 v.1.1.1)) IsName
    (λ u v. subst IsName v.2 (is_name v.0.0 v.0.1.0 v.0.1.1.0 v.0.1.1.1 v.1.0 v.1.1.0 v.1.1.1.0 v.1.1.1.1)) words_of

-- a name is written when its words are, one after another
pub name_written : (u a b c d : ℕ) (old one two three new : List ℕ) → a * 2 ^ 192 + b * 2 ^ 128 + c * 2 ^ 64 + d ≡ u → b < 2 ^ 64 → c < 2 ^ 64 → d < 2 ^ 64
    → one ≡ old ++ to_be_bytes w64 a → two ≡ one ++ to_be_bytes w64 b → three ≡ two ++ to_be_bytes w64 c → new ≡ three ++ to_be_bytes w64 d → new ≡ old ++ name u
name_written u a b c d old one two three new value g h k first second third fourth =
    fourth ∙ joined old one two three (to_be_bytes w64 a) (to_be_bytes w64 b) (to_be_bytes w64 c) (to_be_bytes w64 d) first second third ∙ ap (λ (t : List ℕ). old ++ t) (sym (name_text a b c d g h k) ∙ ap name value)
  where
    joined : (old one two three w x y z : List ℕ) → one ≡ old ++ w → two ≡ one ++ x → three ≡ two ++ y → three ++ z ≡ old ++ (w ++ (x ++ (y ++ z)))
    joined old one two three w x y z e f g = rw (g, f, e) (simp append_assoc)
