-- The words that are printed of an envelope are the fields of their line: none is empty, or has a space in it.
use Rattle.std.proofs.Common.{◌≡◌, ℕ, ◌^◌, ◌<◌, Bool, true, false, cond, List, [], ◌∷◌, ◌++◌, length, drop, refl, arith}
use Rattle.std.specs.Prelude.{Option, Some, None, IfSome}
use Rattle.std.specs.List.{AllByRecursion, flat_map, list_all}
use Rattle.std.specs.Char.{is_ascii_alphanumeric, is_ascii_graphic}
use Rattle.std.specs.Fmt.{decimal}
use Rattle.std.proofs.lemmas.Bool.Decides.{nat_tests}
use Rattle.std.proofs.lemmas.List.Folds.{list_all-append}
use Rattle.hex.specs.Hex.{IsBytes, encode_lower}
use Rattle.scp_types.proofs.Bools.{both}
use Rattle.scp_types.specs.Trees.{Members, none, node, inner, Slices, IsNested, IsName, HaveThresholds, names_in}
use Rattle.scp_types.specs.Statements.{HasWidths, IsBallot, IsEnvelope, Sent}
use Rattle.scp_types.specs.declared.ballot.Ballot.{Ballot}
use Rattle.scp_types.specs.declared.statement.Statement.{Statement}
use Rattle.scp_types.specs.declared.statement.Statement.TheVariants.{Nominate, Prepare, Commit, Externalize}
use Rattle.line_script.specs.Script.{AreFields, Bytes, is_field}
use Rattle.line_script.specs.Names.{text_of_name, word_name}
use Rattle.line_script.specs.Printed.{behind_comma, behind_commas, behind_plus, fields_of_statement, kind_text, text_of_optional, text_of_set, text_of_slices, text_of_statement, text_of_values}
use Rattle.line_script.specs.Statements.{HasBytes}
use Rattle.line_script.specs.Values.{is_lower_digit, is_plain, text_of_value}
use Rattle.line_script.specs.Words.{text_of_ballot, word_number}
use Rattle.line_script.proofs.DigitLaws.{digits_lower}
use Rattle.line_script.proofs.NamesRead.{names_read_back}
use Rattle.line_script.proofs.SlicesPrinted.{number_read_back}
use Rattle.line_script.proofs.SlicesSpelled.{all_pass, lower_plain, name_plain, number_plain}
use Rattle.line_request.specs.TranslatedLines.{text_of_words, words_of}

-- printed characters other than the space, and no others
abbrev is_graphic : Bytes → Bool
is_graphic = list_all is_ascii_graphic

plain_graphic : (b : ℕ) → is_ascii_alphanumeric b ≡ true → is_ascii_graphic b ≡ true
plain_graphic b e = grind (arith, nat_tests)

plain_word : (word : Bytes) → is_plain word ≡ true → is_graphic word ≡ true
plain_word word e = all_pass is_ascii_alphanumeric is_ascii_graphic plain_graphic word e

joined : (xs ys : Bytes) → is_graphic xs ≡ true → is_graphic ys ≡ true → is_graphic (xs ++ ys) ≡ true
joined xs ys e f = rw (list_all-append is_ascii_graphic xs ys, e, f) refl

-- ---- names and numbers

name_graphic : (u : ℕ) → IsName u → is_graphic (text_of_name u) ≡ true
name_graphic u h = plain_word (text_of_name u) (name_plain (text_of_name u) u (names_read_back u h))

number_graphic : (n : ℕ) → n < 2 ^ 64 → is_graphic (decimal n) ≡ true
number_graphic n h = plain_word (decimal n) (number_plain (decimal n) (2 ^ 64) n (number_read_back n (2 ^ 64) h h))

-- ---- slices

names_of_both : (us ws : List ℕ) → AllByRecursion IsName (us ++ ws) → AllByRecursion IsName us × AllByRecursion IsName ws
names_of_both [] ws h = (tt, h)
names_of_both (u ∷ us) ws h = let rest = names_of_both us ws h.1 in ((h.0, rest.0), rest.1)

without_first : (text : Bytes) → is_graphic text ≡ true → is_graphic (drop 1 text) ≡ true
without_first [] e = refl
without_first (b ∷ text) e = (both (is_ascii_graphic b) (is_graphic text) e).1

set_graphic : (k : ℕ) (inside : Bytes) → k < 2 ^ 64 → is_graphic inside ≡ true → is_graphic (text_of_set k inside) ≡ true
set_graphic k inside h e = joined (decimal k) (91 ∷ (inside ++ 93 ∷ [])) (number_graphic k h) (joined inside (93 ∷ []) e refl)

members_graphic : (ms : Members) → HaveThresholds ms → AllByRecursion IsName (names_in ms) → is_graphic (behind_commas ms) ≡ true
members_graphic none h fit = refl
members_graphic (node u rest) h fit = joined (text_of_name u) (behind_commas rest) (name_graphic u fit.0) (members_graphic rest h fit.1)
members_graphic (inner k own rest) h fit =
    let names = names_of_both (names_in own) (names_in rest) fit in
    let inside = without_first (behind_commas own) (members_graphic own h.1 names.0) in
    joined (text_of_set k (drop 1 (behind_commas own))) (behind_commas rest) (set_graphic k (drop 1 (behind_commas own)) (omega (arith, h.0)) inside) (members_graphic rest h.2 names.1)

slices_graphic : (q : Slices) → IsNested q → is_graphic (text_of_slices q) ≡ true
slices_graphic q h =
    set_graphic q.threshold (drop 1 (behind_commas q.members)) (omega (arith, h.outer)) (without_first (behind_commas q.members) (members_graphic q.members h.inner_sets h.names_fit))

-- ---- statements

value_graphic : (v : Bytes) → IsBytes v → is_graphic (text_of_value v) ≡ true
value_graphic v fits = go (is_plain v) refl
  where
    go : (plain : Bool) → is_plain v ≡ plain → is_graphic (cond plain v (35 ∷ encode_lower v)) ≡ true
    go true e = plain_word v e
    go false e = plain_word (encode_lower v) (all_pass is_lower_digit is_ascii_alphanumeric lower_plain (encode_lower v) (digits_lower v fits))

more_graphic : (vs : List Bytes) → AllByRecursion IsBytes vs → is_graphic (flat_map behind_plus vs) ≡ true
more_graphic [] fits = refl
more_graphic (v ∷ vs) fits = joined (behind_plus v) (flat_map behind_plus vs) (value_graphic v fits.0) (more_graphic vs fits.1)

values_graphic : (vs : List Bytes) → AllByRecursion IsBytes vs → is_graphic (text_of_values vs) ≡ true
values_graphic [] fits = refl
values_graphic (v ∷ vs) fits = joined (text_of_value v) (flat_map behind_plus vs) (value_graphic v fits.0) (more_graphic vs fits.1)

ballot_graphic : (b : Ballot) → IsBallot b → IsBytes b.value → is_graphic (text_of_ballot b) ≡ true
ballot_graphic b h fits = joined (decimal b.counter) (58 ∷ text_of_value b.value) (number_graphic b.counter (omega (arith, h.counter))) (value_graphic b.value fits)

optional_graphic : (p : Option Ballot) → IfSome p IsBallot → IfSome p (λ b. IsBytes b.value) → is_graphic (text_of_optional p) ≡ true
optional_graphic None h fits = refl
optional_graphic (Some b) h fits = ballot_graphic b h fits

comma_graphic : (n : ℕ) → n < 2 ^ 32 → is_graphic (behind_comma n) ≡ true
comma_graphic n h = number_graphic n (omega (arith, h))

three_graphic : (a b c : ℕ) → a < 2 ^ 32 → b < 2 ^ 32 → c < 2 ^ 32 → is_graphic (behind_comma a ++ (behind_comma b ++ behind_comma c)) ≡ true
three_graphic a b c f g h =
    joined (behind_comma a) (behind_comma b ++ behind_comma c) (comma_graphic a f) (joined (behind_comma b) (behind_comma c) (comma_graphic b g) (comma_graphic c h))

fields_graphic : (s : Statement) → HasWidths s → HasBytes s → is_graphic (fields_of_statement s) ≡ true
fields_graphic (Nominate voted accepted) h k = joined (text_of_values voted) (124 ∷ text_of_values accepted) (values_graphic voted k.0) (values_graphic accepted k.1)
fields_graphic (Prepare b p a g c) h k =
    let counters = three_graphic a g c h.2 h.3 h.4 in
    joined (text_of_ballot b) (44 ∷ (text_of_optional p ++ (behind_comma a ++ (behind_comma g ++ behind_comma c)))) (ballot_graphic b h.0 k.0)
    (joined (text_of_optional p) (behind_comma a ++ (behind_comma g ++ behind_comma c)) (optional_graphic p h.1 k.1) counters)
fields_graphic (Commit b p g c) h k = joined (text_of_ballot b) (behind_comma p ++ (behind_comma g ++ behind_comma c)) (ballot_graphic b h.0 k) (three_graphic p g c h.1 h.2 h.3)
fields_graphic (Externalize b g) h k = joined (text_of_ballot b) (behind_comma g) (ballot_graphic b h.0 k) (comma_graphic g h.1)

kind_graphic : (s : Statement) → is_graphic (kind_text s) ≡ true
kind_graphic (Nominate voted accepted) = refl
kind_graphic (Prepare b p a g c) = refl
kind_graphic (Commit b p g c) = refl
kind_graphic (Externalize b g) = refl

statement_graphic : (s : Statement) → HasWidths s → HasBytes s → is_graphic (text_of_statement s) ≡ true
statement_graphic s h k = joined (kind_text s) (fields_of_statement s ++ 41 ∷ []) (kind_graphic s) (joined (fields_of_statement s) (41 ∷ []) (fields_graphic s h k) refl)

-- ---- fields

graphic_field : (word : Bytes) → 0 < length word → is_graphic word ≡ true → is_field word ≡ true
graphic_field [] some e = absurd (omega arith)
graphic_field (b ∷ word) some e = e

named_some : (word : Bytes) (u : ℕ) → word_name word ≡ Some u → 0 < length word
named_some [] u e = cc
named_some (b ∷ word) u e = omega arith

number_some : (word : Bytes) (n : ℕ) → word_number (2 ^ 64) word ≡ Some n → 0 < length word
number_some [] n e = cc
number_some (b ∷ word) n e = omega arith

set_some : (k : ℕ) (inside : Bytes) → 0 < length (text_of_set k inside)
set_some k inside = go (decimal k)
  where
    go : (digits : Bytes) → 0 < length (digits ++ 91 ∷ (inside ++ 93 ∷ []))
    go [] = omega arith
    go (d ∷ digits) = omega arith

statement_some : (s : Statement) → 0 < length (text_of_statement s)
statement_some (Nominate voted accepted) = omega arith
statement_some (Prepare b p a g c) = omega arith
statement_some (Commit b p g c) = omega arith
statement_some (Externalize b g) = omega arith

pub words_are_fields : (e : Sent) → IsEnvelope e → HasBytes e.body → AreFields (text_of_words e) (words_of e)
words_are_fields e h k =
    let name = graphic_field (text_of_name e.sender) (named_some (text_of_name e.sender) e.sender (names_read_back e.sender h.sender)) (name_graphic e.sender h.sender) in
    let slot = graphic_field (decimal e.slot) (number_some (decimal e.slot) e.slot (number_read_back e.slot (2 ^ 64) h.slot h.slot)) (number_graphic e.slot h.slot) in
    let slices = graphic_field (text_of_slices e.slices) (set_some e.slices.threshold (drop 1 (behind_commas e.slices.members))) (slices_graphic e.slices h.slices) in
    let statement = graphic_field (text_of_statement e.body) (statement_some e.body) (statement_graphic e.body h.widths k) in
    (refl, rw (name, slot, slices, statement) refl)
