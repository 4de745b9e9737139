-- Words are cut and printed piece by piece.
use Rattle.std.proofs.Common.{◌≡◌, ◌∙◌, ℕ, ◌+◌, ◌-◌, ◌<◌, ◌≤◌, ◌/◌, ◌%◌, [], ◌∷◌, ◌++◌, refl, sym, ap, arith, length, take, drop, get_or, append_assoc, add-one, drop-cons}
use Rattle.std.specs.Prelude.{◌==◌, Some, None, position, slice_index}
use Rattle.std.proofs.lemmas.List.{take_all, length-drop}
use Rattle.std.proofs.Math.ListN.{drop_of_length-le}
use Rattle.hex.specs.Hex.{encode_with, lower_digits}
use Rattle.line_script.specs.Script.{Bytes}
use Rattle.std.proofs.Common.{Bool, true, false, cond}
use Rattle.std.specs.Prelude.{nat_lt, not}
use Rattle.std.specs.List.{position_or_len}
use Rattle.std.specs.Char.{is_ascii_alphanumeric}
use Rattle.std.proofs.lemmas.Bool.Decides.{nat_tests}
use Rattle.line_script.specs.Fronts.{plain_count, plain_part, behind_plain}
use Rattle.line_script.specs.Words.{split_once}
use Rattle.line_script.proofs.RunLaws.{append_nothing}

pub cut_found : (text : Bytes) (at n : ℕ) → n < length text → position (λ b. b == at) text ≡ Some n
    → Some (take n text, take (length text - (n + 1)) (drop (n + 1) text)) ≡ split_once at text
cut_found text at n within found =
    let whole : take (length text - (n + 1)) (drop (n + 1) text) ≡ drop (n + 1) text =
    take_all (length text - (n + 1)) (drop (n + 1) text) (omega (arith, length-drop (n + 1) text)) in
    rw (whole, found) refl

pub cut_missing : (text : Bytes) (at : ℕ) → position (λ b. b == at) text ≡ None → None ≡ split_once at text
cut_missing text at missing = rw missing refl

-- one byte more is two digits more
pub two_digits : (text one two target bytes : Bytes) (i high low : ℕ) → i < length bytes
    → high ≡ slice_index lower_digits (get_or bytes i 0 / 16) → low ≡ slice_index lower_digits (get_or bytes i 0 % 16)
    → one ≡ text ++ high ∷ [] → two ≡ one ++ low ∷ []
    → text ++ encode_with lower_digits (drop i bytes) ≡ target → two ++ encode_with lower_digits (drop (i + 1) bytes) ≡ target
unfolding encode_with
two_digits text one two target bytes i high low within eh el e1 e2 so_far =
    rw (add-one, e2, e1, eh, el) (simp append_assoc (sym (ap (λ bs. text ++ encode_with lower_digits bs) (drop-cons bytes i 0 within)) ∙ so_far))

pub all_digits : (text target bytes : Bytes) (i : ℕ) → length bytes ≤ i → text ++ encode_with lower_digits (drop i bytes) ≡ target → text ≡ target
unfolding encode_with
all_digits text target bytes i end so_far =
    let rest : drop i bytes ≡ [] = drop_of_length-le bytes end in
    sym (append_nothing text) ∙ sym (ap (λ bs. text ++ encode_with lower_digits bs) rest) ∙ so_far

-- ---- ballots

-- ---- letters and digits at the front

found_at : (n m count : ℕ) (within : Bool) → cond within (Some n) None ≡ Some m → m ≡ n
found_at n m count true e = cc
found_at n m count false e = cc

missing_at : (n count : ℕ) (within : Bool) → nat_lt n count ≡ within → cond within (Some n) None ≡ None → count ≤ n
missing_at n count true e f = cc
missing_at n count false e f = grind (arith, nat_tests)

abbrev other : ℕ → Bool
other b = not (is_ascii_alphanumeric b)

pub plain_found : (text : Bytes) (n : ℕ) → position other text ≡ Some n → n ≡ plain_count text
unfolding plain_count
plain_found text n e = found_at (position_or_len other text) n (length text) (nat_lt (position_or_len other text) (length text)) e

pub plain_missing : (text : Bytes) → position other text ≡ None → length text ≤ plain_count text
unfolding plain_count
plain_missing text e = missing_at (position_or_len other text) (length text) (nat_lt (position_or_len other text) (length text)) refl e

pub part_found : (text : Bytes) (n : ℕ) → Some n ≡ position other text → take n text ≡ plain_part text
part_found text n e = ap (λ m. take m text) (plain_found text n (sym e))

pub rest_found : (text : Bytes) (n : ℕ) → Some n ≡ position other text → take (length text - n) (drop n text) ≡ behind_plain text
rest_found text n e =
    take_all (length text - n) (drop n text) (omega (arith, length-drop n text)) ∙ ap (λ m. drop m text) (plain_found text n (sym e))

pub part_missing : (text : Bytes) → None ≡ position other text → text ≡ plain_part text
part_missing text e = sym (take_all (plain_count text) text (plain_missing text (sym e)))

pub rest_missing : (text : Bytes) → None ≡ position other text → [] ≡ behind_plain text
rest_missing text e = sym (drop_of_length-le text (plain_missing text (sym e)))
