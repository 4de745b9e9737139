-- Slices are read back from the word that they are printed as.
use Rattle.std.proofs.Common.{◌≡◌, ◌≢◌, ◌∙◌, ℕ, ◌+◌, ◌-◌, ◌*◌, ◌/◌, ◌%◌, ◌^◌, ◌<◌, ◌≤◌, List, [], ◌∷◌, ◌++◌, length, drop, refl, sym, ap, subst, arith, append_assoc, length-append}
use Rattle.std.specs.Prelude.{Some, None, slice_index}
use Rattle.std.specs.List.{AllByRecursion}
use Rattle.std.specs.Fmt.{decimal as digits_of}
use Rattle.std.proofs.lemmas.Fmt.{decimal_by_steps}
use Rattle.scp_types.specs.Trees.{Members, none, node, inner, Slices, IsNested, IsName, HaveThresholds, member_count, names_in}
use Rattle.line_script.specs.Script.{Bytes}
use Rattle.line_script.specs.Numbers.{IsDigit, decimal, decimal_from}
use Rattle.line_script.specs.Words.{word_number}
use Rattle.line_script.specs.Names.{text_of_name}
use Rattle.line_script.specs.Printed.{behind_commas, text_of_set, text_of_slices}
use Rattle.line_script.specs.Slices.{SpellsMembers, SpellsSlices, SlicesReadBack}
use Rattle.line_script.specs.Slices.SpellsMembers.{nobody, name, set}
use Rattle.line_script.proofs.NumberLaws.{read_number}
use Rattle.line_script.proofs.NamesRead.{names_read_back}
use Rattle.line_script.proofs.SlicesSpelled.{slices_spelled_once}

-- ---- numbers

-- digits that spell a number, as they are printed
record Spelled (n : ℕ) (text : Bytes) : Type 0 where
  pub some : 0 < length text
  pub long : 1 < length text → 0 < n
  pub digits : AllByRecursion IsDigit text
  pub first : 0 < n → slice_index text 0 ≢ 48
  pub value : decimal text ≡ n

one_digit : (n : ℕ) → n < 10 → Spelled n ((48 + n) ∷ [])
one_digit n h = record {
  some = omega arith;
  long = λ l. absurd (omega arith);
  digits = ((omega arith, omega arith), tt);
  first = λ p e. omega arith;
  value = omega arith;
}

from_more : (n : ℕ) (digits : Bytes) (d : ℕ) → decimal_from n (digits ++ d ∷ []) ≡ decimal_from n digits * 10 + (d - 48)
from_more n [] d = refl
from_more n (x ∷ digits) d = from_more (n * 10 + (x - 48)) digits d

digits_more : (digits : Bytes) (d : ℕ) → AllByRecursion IsDigit digits → IsDigit d → AllByRecursion IsDigit (digits ++ d ∷ [])
digits_more [] d h k = (k, tt)
digits_more (x ∷ digits) d h k = (h.0, digits_more digits d h.1 k)

first_stays : (digits : Bytes) (d : ℕ) → 0 < length digits → slice_index (digits ++ d ∷ []) 0 ≡ slice_index digits 0
first_stays [] d h = absurd (omega arith)
first_stays (x ∷ digits) d h = refl

digit_more : (n : ℕ) (digits : Bytes) → 10 ≤ n → Spelled (n / 10) digits → Spelled n (digits ++ ((48 + n % 10) ∷ []))
digit_more n digits h s = record {
  some = omega (arith, length-append digits ((48 + n % 10) ∷ []));
  long = λ l. omega arith;
  digits = digits_more digits (48 + n % 10) s.digits (omega arith, omega arith);
  first = λ p e. s.first (omega arith) (sym (first_stays digits (48 + n % 10) s.some) ∙ e);
  value = from_more 0 digits (48 + n % 10) ∙ ap (λ m. m * 10 + (48 + n % 10 - 48)) s.value ∙ last n;
}
  where
    last : (n : ℕ) → n / 10 * 10 + (48 + n % 10 - 48) ≡ n
    last n = omega arith

pub number_read_back : (n bound : ℕ) → n < bound → n < 2 ^ 64 → word_number bound (digits_of n) ≡ Some n
number_read_back n bound below fits =
    let s : Spelled n (digits_of n) = decimal_by_steps Spelled one_digit digit_more n fits in
    sym (read_number n bound (digits_of n) (record { some = s.some; digits = s.digits; shortest = λ l. s.first (s.long l) }) (omega (arith, s.value)) (sym s.value))

-- ---- members

names_of_both : (us ws : List ℕ) → AllByRecursion IsName (us ++ ws) → AllByRecursion IsName us × AllByRecursion IsName ws
names_of_both [] ws h = (tt, h)
names_of_both (u ∷ us) ws h = let rest = names_of_both us ws h.1 in ((h.0, rest.0), rest.1)

comma_first : (own : Members) → 0 < member_count own → behind_commas own ≡ 44 ∷ drop 1 (behind_commas own)
comma_first none h = absurd (omega (arith, h))
comma_first (node u rest) h = refl
comma_first (inner k own rest) h = refl

members_printed : (own : Members) → HaveThresholds own → AllByRecursion IsName (names_in own) → SpellsMembers own (behind_commas own)
members_printed none h fit = nobody
members_printed (node u rest) h fit = name (text_of_name u) (behind_commas rest) refl (names_read_back u fit.0) (members_printed rest h fit.1)
members_printed (inner k own rest) h fit =
    let names = names_of_both (names_in own) (names_in rest) fit in
    let inside = drop 1 (behind_commas own) in
    let parts : 44 ∷ (text_of_set k inside ++ behind_commas rest) ≡ 44 ∷ (digits_of k ++ 91 ∷ (inside ++ 93 ∷ behind_commas rest)) =
    ap (λ bs. 44 ∷ bs) (append_assoc (digits_of k) (91 ∷ (inside ++ 93 ∷ [])) (behind_commas rest) ∙ ap (λ bs. digits_of k ++ 91 ∷ bs) (append_assoc inside (93 ∷ []) (behind_commas rest))) in
    set (digits_of k) inside (behind_commas rest) parts (number_read_back k (2 ^ 8) (omega (arith, h.0)) (omega (arith, h.0)))
    (subst (SpellsMembers own) (comma_first own (omega (arith, h.0))) (members_printed own h.1 names.0)) (members_printed rest h.2 names.1)

slices_printed : (q : Slices) → IsNested q → SpellsSlices q (text_of_slices q)
slices_printed q h = record {
  digits = digits_of q.threshold;
  inside = drop 1 (behind_commas q.members);
  parts = refl;
  threshold = number_read_back q.threshold (2 ^ 8) (omega (arith, h.outer)) (omega (arith, h.outer));
  members = subst (SpellsMembers q.members) (comma_first q.members (omega (arith, h.outer))) (members_printed q.members h.inner_sets h.names_fit);
}

pub slices_read_back : SlicesReadBack
slices_read_back q h (Some p) read = ap (λ s. Some s) (slices_spelled_once p q (text_of_slices q) read.0 read.1 (slices_printed q h) h)
slices_read_back q h None read = absurd (read q (slices_printed q h) h)
