-- The words of scripts and of printed lines: what each is read as, and what is printed.
use Rattle.std.specs.Prelude.{◌==◌, ◌&&◌, ◌||◌, ◌++◌, ◌+◌, ◌^◌, ℕ, Bool, not, ◌∷◌, length, take, drop, nat_le, nat_lt, position, slice_index, Option, Some, None, option_map, if◌then◌else◌}
use Rattle.std.specs.List.{list_all}
use Rattle.std.specs.Fmt.{decimal}
use Rattle.scp_types.specs.declared.ballot.Ballot.{Ballot}
use Rattle.line_script.specs.Script.{Bytes}
use Rattle.line_script.specs.Numbers.{is_digit, decimal as number}
use Rattle.line_script.specs.Values.{text_of_value, word_value}

-- what stands before the first such byte, and what stands after it
abbrev pub split_once : ℕ → Bytes → Option (Bytes × Bytes)
split_once at text = option_map (λ n. (take n text, drop (n + 1) text)) (position (λ b. b == at) text)

-- two words with a space (32) between
abbrev pub space_between : Bytes → Bytes → Bytes
space_between one other = one ++ 32 ∷ other

-- ---- numbers and ballots

-- decimal digits, of which the first is no 0 if there are several
abbrev pub is_decimal : Bytes → Bool
is_decimal word =
    (nat_lt 0 (length word) && list_all is_digit word) && (nat_le (length word) 1 || not (slice_index word 0 == 48))

-- the number that a word spells, if it spells one below a bound
abbrev pub word_number : ℕ → Bytes → Option ℕ
word_number bound word = if is_decimal word && nat_lt (number word) bound then Some (number word) else None

-- the number that a word spells, if it spells one below 2^32
abbrev pub word_counter : Bytes → Option ℕ
word_counter = word_number (2 ^ 32)

-- the number that a word spells, if it spells one below 2^8
abbrev pub word_threshold : Bytes → Option ℕ
word_threshold = word_number (2 ^ 8)

-- a counter, if there is one, with what stands behind it
abbrev pub with_counter : Option ℕ → Bytes → Option (ℕ × Bytes)
with_counter (Some counter) behind = Some (counter, behind)
with_counter None behind = None

-- the counter at the front of a word, and what stands behind it
abbrev pub counter_and_rest : Option (Bytes × Bytes) → Option (ℕ × Bytes)
counter_and_rest (Some parts) = with_counter (word_counter parts.0) parts.1
counter_and_rest None = None

-- a counter and the word of a value as a ballot
abbrev pub ballot_of_parts : Option (ℕ × Bytes) → Option Ballot
ballot_of_parts (Some parts) = option_map (λ v. record { counter = parts.0; value = v }) (word_value parts.1)
ballot_of_parts None = None

-- the ballot that a word spells: a counter, a colon (58) and a value
abbrev pub word_ballot : Bytes → Option Ballot
word_ballot word = ballot_of_parts (counter_and_rest (split_once 58 word))

-- the word of a ballot: a counter, a colon (58) and a value
abbrev pub text_of_ballot : Ballot → Bytes
text_of_ballot b = decimal b.counter ++ 58 ∷ text_of_value b.value
