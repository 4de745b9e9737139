-- The words of a text with numbers less: they are the fields of a line again, and are no longer than they were.
use Rattle.std.specs.Prelude.{◌≡◌, ◌+◌, ◌-◌, ◌%◌, ◌^◌, ◌≤◌, ◌<◌, ◌==◌, ◌&&◌, ◌++◌, ◌∷◌, [], not, ℕ, Bool, true, false, List, length, nat_lt, Option, Some, None, if◌then◌else◌}
use Rattle.std.specs.Fmt.{decimal}
use Rattle.std.specs.List.{join_with_byte, list_all, position_or_len, prefix_len}
use Rattle.std.specs.Char.{is_ascii_graphic, is_ascii_alphanumeric}
use Rattle.std.proofs.Common.{◌∙◌, refl, sym, ap, arith, one-add, length-append}
use Rattle.std.proofs.lemmas.Bool.Decides.{nat_tests}
use Rattle.std.proofs.lemmas.Fmt.{decimal_by_steps}
use Rattle.line_script.specs.Numbers.{decimal as number}
use Rattle.line_script.specs.Script.{AreFields, Bytes, is_field}
use Rattle.line_script.specs.Words.{is_decimal, split_once, word_number}
use Rattle.line_script.proofs.ScriptLemmas.{both_true, field_of_graphic}
use Rattle.line_script.proofs.SlicesPrinted.{number_read_back}
use Rattle.line_script.proofs.SlicesSpelled.{all_pass, number_plain}
use Rattle.line_script.proofs.StatementsRead.{cut_before}
use Rattle.live_feed.specs.Lasting.{less, lowered_word, lowered_words, on_words}

-- ---- numbers
-- what a word spells that is read below a bound
pub record IsReadAs (bound : ℕ) (word : Bytes) (n : ℕ) : Type 0 where
  pub decimal : is_decimal word ≡ true
  pub is : number word ≡ n
  pub below : n < bound

pub read-as : (bound : ℕ) (word : Bytes) (n : ℕ) → word_number bound word ≡ Some n → IsReadAs bound word n
read-as bound word n read = by (is_decimal word) (nat_lt (number word) bound) refl refl read
  where
    by : (is below : Bool) → is_decimal word ≡ is → nat_lt (number word) bound ≡ below
        → (if is && below then Some (number word) else None) ≡ Some n → IsReadAs bound word n
    by true true is below some =
        let same : number word ≡ n = cc in record { decimal = is; is = same; below = grind (arith, nat_tests) }
    by true false is below some = cc
    by false below is lt some = cc

read-wider : (bound wider : ℕ) (word : Bytes) (n : ℕ) → bound ≤ wider → word_number bound word ≡ Some n
    → word_number wider word ≡ Some n
read-wider bound wider word n le read =
    let spelled = read-as bound word n read in
    let below : nat_lt (number word) wider ≡ true = lt (number word) wider (omega (arith, spelled.is, spelled.below)) in
    rw (spelled.decimal, below) (ap Some spelled.is)
  where
    lt : (a b : ℕ) → a < b → nat_lt a b ≡ true
    lt a b h = grind (arith, nat_tests)

-- a number that is read is the lesser number once it is lowered
pub lowered-number : (by bound n : ℕ) (word : Bytes) → bound ≤ 2 ^ 64 → word_number bound word ≡ Some n
    → word_number bound (lowered_word by word) ≡ Some (n - by)
lowered-number by bound n word le read =
    let spelled = read-as bound word n read in
    let below = spelled.below in
    ap (λ o. word_number bound (less by o word)) (read-wider bound (2 ^ 64) word n le read)
    ∙ number_read_back (n - by) bound (omega (arith, below)) (omega (arith, below))

pub same-number : (bound n : ℕ) (word : Bytes) → bound ≤ 2 ^ 64 → word_number bound word ≡ Some n
    → word_number bound (lowered_word 0 word) ≡ Some n
same-number bound n word le read = lowered-number 0 bound n word le read ∙ ap Some (none-less n)
  where
    none-less : (n : ℕ) → n - 0 ≡ n
    none-less n = omega arith

-- ---- words
plain-is-graphic : (b : ℕ) → is_ascii_alphanumeric b ≡ true → is_ascii_graphic b ≡ true
plain-is-graphic b e = grind (arith, nat_tests)

graphic-is-no-space : (b : ℕ) → is_ascii_graphic b ≡ true → not (b == 32) ≡ true
graphic-is-no-space b e = grind (arith, nat_tests)

pub decimal-is-field : (n : ℕ) → n < 2 ^ 64 → is_field (decimal n) ≡ true
decimal-is-field n fits =
    sym (field_of_graphic (decimal n)
    (decimal_by_steps (λ m digits. 1 ≤ length digits) (λ m small. omega arith)
    (λ m digits some large. omega (arith, length-append digits ((48 + m % 10) ∷ []))) n fits))
    ∙ all_pass is_ascii_alphanumeric is_ascii_graphic plain-is-graphic (decimal n)
    (number_plain (decimal n) (2 ^ 64) n (number_read_back n (2 ^ 64) fits fits))

lowered-is-field : (by : ℕ) (word : Bytes) → is_field word ≡ true → is_field (lowered_word by word) ≡ true
lowered-is-field by word field = step (word_number (2 ^ 64) word) refl
  where
    step : (o : Option ℕ) → word_number (2 ^ 64) word ≡ o → is_field (less by o word) ≡ true
    step None read = field
    step (Some n) read =
        let below = (read-as (2 ^ 64) word n read).below in decimal-is-field (n - by) (omega (arith, below))

lacks-space : (field : Bytes) → is_field field ≡ true → list_all (λ b. not (b == 32)) field ≡ true
lacks-space [] e = refl
lacks-space (b ∷ more) e = all_pass is_ascii_graphic (λ c. not (c == 32)) graphic-is-no-space (b ∷ more) e

-- ---- fields
-- the first of these fields with these numbers less
abbrev pub lowered_fields : List ℕ → List Bytes → List Bytes
lowered_fields [] fields = fields
lowered_fields (by ∷ more) [] = []
lowered_fields (by ∷ more) (field ∷ fields) = lowered_word by field ∷ lowered_fields more fields

pub lowered-are-fields : (bys : List ℕ) (fields : List Bytes) → list_all is_field fields ≡ true
    → list_all is_field (lowered_fields bys fields) ≡ true
lowered-are-fields [] fields e = e
lowered-are-fields (by ∷ more) [] e = refl
lowered-are-fields (by ∷ more) (field ∷ fields) e =
    let both = both_true (is_field field) (list_all is_field fields) e in
    rw (lowered-is-field by field both.0) (lowered-are-fields more fields both.1)

all-counted : (p : ℕ → Bool) (word : Bytes) → list_all p word ≡ true → prefix_len p word ≡ length word
all-counted p [] e = refl
all-counted p (b ∷ word) e =
    let both = both_true (p b) (list_all p word) e in
    rw both.0 (ap (λ n. 1 + n) (all-counted p word both.1) ∙ one-add (length word))

not-below-itself : (n : ℕ) → nat_lt n n ≡ false
not-below-itself n = grind (arith, nat_tests)

uncut : (field : Bytes) → is_field field ≡ true → split_once 32 field ≡ None
uncut field e =
    let all : position_or_len (λ b. b == 32) field ≡ length field =
    all-counted (λ b. not (b == 32)) field (lacks-space field e) in
    rw (all, not-below-itself (length field)) refl

none-lowered : (bys : List ℕ) → lowered_fields bys [] ≡ []
none-lowered [] = refl
none-lowered (by ∷ bys) = refl

joined-on : (word : Bytes) (bys : List ℕ) (field : Bytes) (fields : List Bytes)
    → word ++ 32 ∷ join_with_byte 32 (lowered_fields bys (field ∷ fields))
    ≡ join_with_byte 32 (word ∷ lowered_fields bys (field ∷ fields))
joined-on word [] field fields = refl
joined-on word (by ∷ bys) field fields = refl

-- the words of a line are its fields
pub lowered-joined : (bys : List ℕ) (fields : List Bytes) → list_all is_field fields ≡ true
    → lowered_words bys (join_with_byte 32 fields) ≡ join_with_byte 32 (lowered_fields bys fields)
lowered-joined [] fields e = refl
lowered-joined (by ∷ more) [] e = refl
lowered-joined (by ∷ more) (field ∷ []) e =
    ap (λ o. on_words (lowered_word by) (lowered_words more) o field) (uncut field (both_true (is_field field) true e).0)
    ∙ ap (λ fs. join_with_byte 32 (lowered_word by field ∷ fs)) (sym (none-lowered more))
lowered-joined (by ∷ more) (field ∷ next ∷ fields) e =
    let both = both_true (is_field field) (list_all is_field (next ∷ fields)) e in
    ap (λ o. on_words (lowered_word by) (lowered_words more) o (join_with_byte 32 (field ∷ next ∷ fields)))
    (cut_before 32 field (join_with_byte 32 (next ∷ fields)) (lacks-space field both.0))
    ∙ ap (λ t. lowered_word by field ++ 32 ∷ t) (lowered-joined more (next ∷ fields) both.1)
    ∙ joined-on (lowered_word by field) more next fields

pub lowered-fields-are : (bys : List ℕ) (line : Bytes) (fields : List Bytes) → AreFields line fields
    → AreFields (lowered_words bys line) (lowered_fields bys fields)
lowered-fields-are bys line fields are =
    (sym (lowered-joined bys fields are.1) ∙ ap (lowered_words bys) are.0, lowered-are-fields bys fields are.1)
