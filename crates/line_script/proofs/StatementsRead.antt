-- A statement is read back from the word that it is printed as.
use Rattle.std.proofs.Common.{◌≡◌, ◌∙◌, ℕ, ◌+◌, ◌-◌, ◌^◌, ◌<◌, Bool, true, false, cond, List, [], ◌∷◌, ◌++◌, length, take, drop, refl, ap, arith, length-append, ne_eqb, one-add}
use Rattle.std.specs.Prelude.{◌==◌, ◌&&◌, ◌||◌, not, nat_eq, nat_lt, Option, Some, None, IfSome, option_map, position}
use Rattle.std.specs.List.{AllByRecursion, flat_map, list_all, prefix_len, position_or_len, slice_split}
use Rattle.std.specs.Char.{is_ascii_alphanumeric}
use Rattle.std.specs.Fmt.{decimal as digits_of}
use Rattle.std.proofs.Math.Seq.{take-append_seam, drop-append_seam, drop-append-add}
use Rattle.std.proofs.lemmas.Bool.Decides.{nat_tests}
use Rattle.std.proofs.lemmas.List.Folds.{list_all-append}
use lib.Pointwise.{pointwise}
use Rattle.hex.specs.Hex.{IsBytes, encode_lower}
use Rattle.scp_types.specs.Nominations.{IsValue}
use Rattle.scp_types.specs.Statements.{HasWidths, IsBallot}
use Rattle.scp_types.specs.declared.ballot.Ballot.{Ballot}
use Rattle.scp_types.specs.declared.statement.Statement.TheVariants.{Nominate, Prepare, Commit, Externalize}
use Rattle.line_script.specs.Script.{Bytes}
use Rattle.line_script.specs.Values.{is_plain, is_lower_digit, text_of_value, word_value}
use Rattle.line_script.specs.Words.{split_once, text_of_ballot, word_ballot, word_counter}
use Rattle.line_script.specs.WordLists.{each_word}
use Rattle.line_script.specs.Printed.{behind_plus, fields_of_statement, text_of_optional, text_of_values}
use Rattle.line_script.specs.Statements.{HasBytes, StatementsReadBack, before_bracket, commit_in, split_twice, externalize_in, nomination_in, prepare_in, three_counters, word_optional, word_values}
use Rattle.line_script.proofs.DigitLaws.{digits_lower}
use Rattle.line_script.proofs.RunLaws.{append_nothing}
use Rattle.line_script.proofs.ScriptLemmas.{both_true}
use Rattle.line_script.proofs.SlicesPrinted.{number_read_back}
use Rattle.line_script.proofs.SlicesSpelled.{all_pass, lower_plain, number_plain}
use Rattle.line_script.proofs.ValuesRead.{values_read_back}

-- ---- what no printed piece holds

-- letters, digits, and the marks `#` (35), `+` (43), `-` (45) and `:` (58)
abbrev is_inner : ℕ → Bool
is_inner b = is_ascii_alphanumeric b || (b == 35 || (b == 43 || (b == 45 || b == 58)))

-- letters, digits and `#`
abbrev is_of_value : ℕ → Bool
is_of_value b = is_ascii_alphanumeric b || b == 35

abbrev lacks : ℕ → Bytes → Bool
lacks at text = list_all (λ b. not (b == at)) text

plain_of_value : (b : ℕ) → is_ascii_alphanumeric b ≡ true → is_of_value b ≡ true
plain_of_value b e = rw e refl

value_inner : (b : ℕ) → is_of_value b ≡ true → is_inner b ≡ true
value_inner b e = grind (arith, nat_tests)

plain_inner : (b : ℕ) → is_ascii_alphanumeric b ≡ true → is_inner b ≡ true
plain_inner b e = rw e refl

no_plus : (b : ℕ) → is_of_value b ≡ true → not (b == 43) ≡ true
no_plus b e = grind (arith, nat_tests)

no_colon : (b : ℕ) → is_ascii_alphanumeric b ≡ true → not (b == 58) ≡ true
no_colon b e = grind (arith, nat_tests)

no_comma : (b : ℕ) → is_inner b ≡ true → not (b == 44) ≡ true
no_comma b e = grind (arith, nat_tests)

no_bar : (b : ℕ) → is_inner b ≡ true → not (b == 124) ≡ true
no_bar b e = grind (arith, nat_tests)

both_pass : (p : ℕ → Bool) (xs ys : Bytes) → list_all p xs ≡ true → list_all p ys ≡ true → list_all p (xs ++ ys) ≡ true
both_pass p xs ys e f = rw (list_all-append p xs ys, e, f) refl

value_text : (v : Bytes) → IsBytes v → list_all is_of_value (text_of_value v) ≡ true
value_text v fits = go (is_plain v) refl
  where
    go : (plain : Bool) → is_plain v ≡ plain → list_all is_of_value (cond plain v (35 ∷ encode_lower v)) ≡ true
    go true e = all_pass is_ascii_alphanumeric is_of_value plain_of_value v e
    go false e = all_pass is_ascii_alphanumeric is_of_value plain_of_value (encode_lower v) (all_pass is_lower_digit is_ascii_alphanumeric lower_plain (encode_lower v) (digits_lower v fits))

value_text_inner : (v : Bytes) → IsBytes v → list_all is_inner (text_of_value v) ≡ true
value_text_inner v fits = all_pass is_of_value is_inner value_inner (text_of_value v) (value_text v fits)

digits_plain : (n : ℕ) → n < 2 ^ 64 → is_plain (digits_of n) ≡ true
digits_plain n fits = number_plain (digits_of n) (2 ^ 64) n (number_read_back n (2 ^ 64) fits fits)

digits_inner : (n : ℕ) → n < 2 ^ 64 → list_all is_inner (digits_of n) ≡ true
digits_inner n fits = all_pass is_ascii_alphanumeric is_inner plain_inner (digits_of n) (digits_plain n fits)

-- ---- cuts

count_before : (p : ℕ → Bool) (word : Bytes) (b : ℕ) (more : Bytes) → list_all p word ≡ true → p b ≡ false → prefix_len p (word ++ b ∷ more) ≡ length word
count_before p [] b more e f = rw f refl
count_before p (c ∷ word) b more e f =
    let both = both_true (p c) (list_all p word) e in
    rw both.0 (ap (λ n. 1 + n) (count_before p word b more both.1 f) ∙ one-add (length word))

is_not : (b : Bool) → not b ≡ false → b ≡ true
is_not true e = refl
is_not false e = cc

not_is : (b : Bool) → not b ≡ true → b ≡ false
not_is true e = cc
not_is false e = refl

not_self : (at : ℕ) → not (at == at) ≡ false
not_self at = grind (arith, nat_tests)

pub cut_before : (at : ℕ) (word more : Bytes) → lacks at word ≡ true → split_once at (word ++ at ∷ more) ≡ Some (word, more)
cut_before at word more e =
    let count : position_or_len (λ b. b == at) (word ++ at ∷ more) ≡ length word = count_before (λ b. not (b == at)) word at more e (not_self at) in
    let within : nat_lt (length word) (length (word ++ at ∷ more)) ≡ true = below (length word) (length (word ++ at ∷ more)) (omega (arith, length-append word (at ∷ more))) in
    let found : position (λ b. b == at) (word ++ at ∷ more) ≡ Some (length word) = rw (count, within) refl in
    ap (option_map {U = Bytes × Bytes} (λ n. (take n (word ++ at ∷ more), drop (n + 1) (word ++ at ∷ more)))) found ∙ parts
  where
    below : (n m : ℕ) → n < m → nat_lt n m ≡ true
    below n m h = grind (arith, nat_tests)

    parts : ◌≡◌ {A = Option (Bytes × Bytes)} (Some (take (length word) (word ++ at ∷ more), drop (length word + 1) (word ++ at ∷ more))) (Some (word, more))
    parts = rw (take-append_seam word (at ∷ more), drop-append-add word (at ∷ more) 1) refl

cut_two : (at : ℕ) (first second third : Bytes) → lacks at first ≡ true → lacks at second ≡ true → split_twice at (first ++ at ∷ (second ++ at ∷ third)) ≡ Some (first, second, third)
cut_two at first second third e f = rw (cut_before at first (second ++ at ∷ third) e, cut_before at second third f) refl

-- ---- ballots and counters

counter_back : (n : ℕ) → n < 2 ^ 32 → word_counter (digits_of n) ≡ Some n
counter_back n h = number_read_back n (2 ^ 32) h (omega (arith, h))

pub ballot_back : (b : Ballot) → IsBallot b → IsBytes b.value → word_ballot (text_of_ballot b) ≡ Some b
ballot_back b h fits =
    let cut = cut_before 58 (digits_of b.counter) (text_of_value b.value) (all_pass is_ascii_alphanumeric (λ c. not (c == 58)) no_colon (digits_of b.counter) (digits_plain b.counter (omega (arith, h.counter)))) in
    rw (cut, counter_back b.counter h.counter, values_read_back b.value h.value.0 h.value.1 fits) refl

ballot_inner : (b : Ballot) → IsBallot b → IsBytes b.value → list_all is_inner (text_of_ballot b) ≡ true
ballot_inner b h fits = both_pass is_inner (digits_of b.counter) (58 ∷ text_of_value b.value) (digits_inner b.counter (omega (arith, h.counter))) (value_text_inner b.value fits)

no_commas : (word : Bytes) → list_all is_inner word ≡ true → lacks 44 word ≡ true
no_commas word e = all_pass is_inner (λ b. not (b == 44)) no_comma word e

digits_comma : (n : ℕ) → n < 2 ^ 32 → lacks 44 (digits_of n) ≡ true
digits_comma n h = no_commas (digits_of n) (digits_inner n (omega (arith, h)))

counters_back : (a b c : ℕ) → a < 2 ^ 32 → b < 2 ^ 32 → c < 2 ^ 32 → three_counters (digits_of a ++ 44 ∷ (digits_of b ++ 44 ∷ digits_of c)) ≡ Some (a, b, c)
counters_back a b c f g h =
    rw (cut_two 44 (digits_of a) (digits_of b) (digits_of c) (digits_comma a f) (digits_comma b g), counter_back a f, counter_back b g, counter_back c h) refl

-- ---- lists of values

split_none : (at : ℕ) (word : Bytes) → lacks at word ≡ true → slice_split (λ b. b == at) word ≡ word ∷ []
split_none at [] e = refl
split_none at (b ∷ word) e =
    let both = both_true (not (b == at)) (lacks at word) e in
    rw (not_is (b == at) both.0, split_none at word both.1) refl

split_at : (at : ℕ) (word more : Bytes) → lacks at word ≡ true → slice_split (λ b. b == at) (word ++ at ∷ more) ≡ word ∷ slice_split (λ b. b == at) more
split_at at [] more e = rw (is_not (at == at) (not_self at)) refl
split_at at (b ∷ word) more e =
    let both = both_true (not (b == at)) (lacks at word) e in
    rw (not_is (b == at) both.0, split_at at word more both.1) refl

value_no_plus : (v : Bytes) → IsBytes v → lacks 43 (text_of_value v) ≡ true
value_no_plus v fits = all_pass is_of_value (λ b. not (b == 43)) no_plus (text_of_value v) (value_text v fits)

each_back : (v : Bytes) (more : List Bytes) → AllByRecursion IsValue (v ∷ more) → AllByRecursion IsBytes (v ∷ more)
    → each_word word_value (slice_split (λ b. b == 43) (text_of_value v ++ flat_map behind_plus more)) ≡ Some (v ∷ more)
each_back v [] h k = rw (append_nothing (text_of_value v), split_none 43 (text_of_value v) (value_no_plus v k.0), values_read_back v h.0.0 h.0.1 k.0) refl
each_back v (w ∷ more) h k =
    rw (split_at 43 (text_of_value v) (text_of_value w ++ flat_map behind_plus more) (value_no_plus v k.0), values_read_back v h.0.0 h.0.1 k.0, each_back w more h.1 k.1) refl

value_some : (v : Bytes) → 0 < length v → 0 < length (text_of_value v)
value_some v h = go (is_plain v)
  where
    go : (plain : Bool) → 0 < length (cond plain v (35 ∷ encode_lower v))
    go true = h
    go false = omega arith

not_empty : (text : Bytes) → 0 < length text → (length text == 0) ≡ false
not_empty text h = ne_eqb (length text) 0 (omega arith)

values_back : (vs : List Bytes) → AllByRecursion IsValue vs → AllByRecursion IsBytes vs → word_values (text_of_values vs) ≡ Some vs
values_back [] h k = refl
values_back (v ∷ more) h k =
    let some : 0 < length (text_of_value v ++ flat_map behind_plus more) = omega (arith, value_some v h.0.0, length-append (text_of_value v) (flat_map behind_plus more)) in
    rw (not_empty (text_of_value v ++ flat_map behind_plus more) some) (each_back v more h k)

more_inner : (vs : List Bytes) → AllByRecursion IsBytes vs → list_all is_inner (flat_map behind_plus vs) ≡ true
more_inner [] k = refl
more_inner (v ∷ more) k = both_pass is_inner (43 ∷ text_of_value v) (flat_map behind_plus more) (value_text_inner v k.0) (more_inner more k.1)

values_inner : (vs : List Bytes) → AllByRecursion IsBytes vs → list_all is_inner (text_of_values vs) ≡ true
values_inner [] k = refl
values_inner (v ∷ more) k = both_pass is_inner (text_of_value v) (flat_map behind_plus more) (value_text_inner v k.0) (more_inner more k.1)

-- ---- statements by their fields

nomination_back : (voted accepted : List Bytes) → HasWidths (Nominate voted accepted) → HasBytes (Nominate voted accepted) → nomination_in (fields_of_statement (Nominate voted accepted)) ≡ Some (Nominate voted accepted)
nomination_back voted accepted h k =
    let cut = cut_before 124 (text_of_values voted) (text_of_values accepted) (all_pass is_inner (λ b. not (b == 124)) no_bar (text_of_values voted) (values_inner voted k.0)) in
    rw (cut, values_back voted h.0 k.0, values_back accepted h.1 k.1) refl

-- a ballot is not the mark of none
longer : (word : Bytes) → 1 < length word → pointwise nat_eq word (45 ∷ []) ≡ false
longer [] h = absurd (omega arith)
longer (b ∷ []) h = absurd (omega arith)
longer (b ∷ c ∷ word) h = go (nat_eq b 45)
  where
    go : (first : Bool) → (first && false) ≡ false
    go true = refl
    go false = refl

optional_back : (p : Option Ballot) → IfSome p IsBallot → IfSome p (λ b. IsBytes b.value) → word_optional (text_of_optional p) ≡ Some p
optional_back None h k = refl
optional_back (Some b) h k =
    let long : 1 < length (text_of_ballot b) = omega (arith, value_some b.value h.value.0, length-append (digits_of b.counter) (58 ∷ text_of_value b.value)) in
    rw (longer (text_of_ballot b) long, ballot_back b h k) refl

optional_comma : (p : Option Ballot) → IfSome p IsBallot → IfSome p (λ b. IsBytes b.value) → lacks 44 (text_of_optional p) ≡ true
optional_comma None h k = refl
optional_comma (Some b) h k = no_commas (text_of_ballot b) (ballot_inner b h k)

ballot_comma : (b : Ballot) → IsBallot b → IsBytes b.value → lacks 44 (text_of_ballot b) ≡ true
ballot_comma b h k = no_commas (text_of_ballot b) (ballot_inner b h k)

prepare_back : (b : Ballot) (p : Option Ballot) (a h c : ℕ) → HasWidths (Prepare b p a h c) → HasBytes (Prepare b p a h c) → prepare_in (fields_of_statement (Prepare b p a h c)) ≡ Some (Prepare b p a h c)
prepare_back b p a h c w k =
    let cut = cut_two 44 (text_of_ballot b) (text_of_optional p) (digits_of a ++ 44 ∷ (digits_of h ++ 44 ∷ digits_of c)) (ballot_comma b w.0 k.0) (optional_comma p w.1 k.1) in
    rw (cut, counters_back a h c w.2 w.3 w.4, ballot_back b w.0 k.0, optional_back p w.1 k.1) refl

commit_back : (b : Ballot) (p h c : ℕ) → HasWidths (Commit b p h c) → HasBytes (Commit b p h c) → commit_in (fields_of_statement (Commit b p h c)) ≡ Some (Commit b p h c)
commit_back b p h c w k =
    let cut = cut_before 44 (text_of_ballot b) (digits_of p ++ 44 ∷ (digits_of h ++ 44 ∷ digits_of c)) (ballot_comma b w.0 k) in
    rw (cut, counters_back p h c w.1 w.2 w.3, ballot_back b w.0 k) refl

externalize_back : (b : Ballot) (h : ℕ) → HasWidths (Externalize b h) → HasBytes (Externalize b h) → externalize_in (fields_of_statement (Externalize b h)) ≡ Some (Externalize b h)
externalize_back b h w k =
    let cut = cut_before 44 (text_of_ballot b) (digits_of h) (ballot_comma b w.0 k) in
    rw (cut, counter_back h w.1, ballot_back b w.0 k) refl

-- ---- statements

closed_back : (fields : Bytes) → before_bracket (fields ++ 41 ∷ []) ≡ Some fields
closed_back fields =
    let count : length (fields ++ 41 ∷ []) - 1 ≡ length fields = omega (arith, length-append fields (41 ∷ [])) in
    rw (count, drop-append_seam fields (41 ∷ []), take-append_seam fields (41 ∷ [])) refl

pub statements_read_back : StatementsReadBack
statements_read_back (Nominate voted accepted) h k = rw (closed_back (fields_of_statement (Nominate voted accepted))) (nomination_back voted accepted h k)
statements_read_back (Prepare b p a g c) h k = rw (closed_back (fields_of_statement (Prepare b p a g c))) (prepare_back b p a g c h k)
statements_read_back (Commit b p g c) h k = rw (closed_back (fields_of_statement (Commit b p g c))) (commit_back b p g c h k)
statements_read_back (Externalize b g) h k = rw (closed_back (fields_of_statement (Externalize b g))) (externalize_back b g h k)
