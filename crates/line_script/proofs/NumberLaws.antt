-- Digits behind a number make no lesser one.
use Rattle.std.proofs.Common.{ℕ, ◌+◌, ◌-◌, ◌*◌, ◌≤◌, List, [], ◌∷◌, arith}
use Rattle.std.proofs.Common.{◌≡◌, ◌<◌, Bool, true, false, refl, ap}
use Rattle.std.specs.Prelude.{◌==◌, ◌&&◌, ◌||◌, ◌↔◌, ◌≢◌, not, nat_lt, nat_le, length, slice_index, Option, Some, None, IsSome, IfSome, if◌then◌else◌}
use Rattle.std.specs.List.{AllByRecursion, list_all}
use Rattle.std.proofs.lemmas.Bool.Decides.{nat_tests}
use Rattle.line_script.specs.Numbers.{IsDecimal, IsDigit, decimal, decimal_from, is_digit}
use Rattle.line_script.specs.Words.{is_decimal, word_number}
use Rattle.line_script.proofs.ScriptLemmas.{both_true}

pub grows : (n : ℕ) (digits : List ℕ) → n ≤ decimal_from n digits
grows n [] = omega arith
grows n (digit ∷ digits) = omega (arith, grows (n * 10 + (digit - 48)) digits)

test_digit : (b : ℕ) → IsDigit b → is_digit b ≡ true
test_digit b h = grind (arith, nat_tests)

digit_test : (b : ℕ) → is_digit b ≡ true → IsDigit b
digit_test b e = grind (arith, nat_tests)

all_tested : (word : List ℕ) → AllByRecursion IsDigit word → list_all is_digit word ≡ true
all_tested [] h = refl
all_tested (b ∷ more) h = simp (test_digit b h.0, all_tested more h.1)

tested_all : (word : List ℕ) → list_all is_digit word ≡ true → AllByRecursion IsDigit word
tested_all [] e = tt
tested_all (b ∷ more) e =
    let both = both_true (is_digit b) (list_all is_digit more) e in
    (digit_test b both.0, tested_all more both.1)

shortest_tested : (word : List ℕ) → (1 < length word → slice_index word 0 ≢ 48) → (nat_le (length word) 1 || not (slice_index word 0 == 48)) ≡ true
shortest_tested word h = grind (arith, nat_tests)

tested_shortest : (word : List ℕ) → (nat_le (length word) 1 || not (slice_index word 0 == 48)) ≡ true → 1 < length word → slice_index word 0 ≢ 48
tested_shortest word e long same = grind (arith, nat_tests)

some_tested : (word : List ℕ) → 0 < length word → nat_lt 0 (length word) ≡ true
some_tested word h = grind (arith, nat_tests)

tested_some : (word : List ℕ) → nat_lt 0 (length word) ≡ true → 0 < length word
tested_some word e = grind (arith, nat_tests)

pub decimal_tested : (word : List ℕ) → IsDecimal word → is_decimal word ≡ true
decimal_tested word h = simp (some_tested word h.some, all_tested word h.digits, shortest_tested word h.shortest)

pub tested_decimal : (word : List ℕ) → is_decimal word ≡ true → IsDecimal word
tested_decimal word e =
    let outer = both_true (nat_lt 0 (length word) && list_all is_digit word) (nat_le (length word) 1 || not (slice_index word 0 == 48)) e in
    let inner = both_true (nat_lt 0 (length word)) (list_all is_digit word) outer.0 in
    record { some = tested_some word inner.0; digits = tested_all word inner.1; shortest = tested_shortest word outer.1 }

below_tested : (n bound : ℕ) → n < bound → nat_lt n bound ≡ true
below_tested n bound h = grind (arith, nat_tests)

tested_below : (n bound : ℕ) → nat_lt n bound ≡ true → n < bound
tested_below n bound e = grind (arith, nat_tests)

pub read_number : (n bound : ℕ) (word : List ℕ) → IsDecimal word → decimal word < bound → n ≡ decimal word → Some n ≡ word_number bound word
read_number n bound word h below e = simp (decimal_tested word h, below_tested (decimal word) bound below) (ap Some e)

no_number : (bound : ℕ) (word : List ℕ) (is below : Bool) → is_decimal word ≡ is → nat_lt (decimal word) bound ≡ below
    → (IsDecimal word → decimal word < bound → ⊥) → None ≡ (if is && below then Some (decimal word) else None)
no_number bound word true true e f h = absurd (h (tested_decimal word e) (tested_below (decimal word) bound f))
no_number bound word true false e f h = refl
no_number bound word false below e f h = refl

-- what the digits say is what the number is read as
pub number_read : (r : Option ℕ) (word : List ℕ) (bound : ℕ) → (IsSome r ↔ IsDecimal word × (decimal word < bound)) → IfSome r (λ n. n ≡ decimal word)
    → r ≡ word_number bound word
number_read (Some n) word bound exactly some =
    let both = exactly.0 refl in read_number n bound word both.0 both.1 some
number_read None word bound exactly some =
    no_number bound word (is_decimal word) (nat_lt (decimal word) bound) refl refl (λ h below. let no = exactly.1 (h, below) in cc)
