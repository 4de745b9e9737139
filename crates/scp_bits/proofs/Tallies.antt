-- What is asked one by one counts as all at once.
use Rattle.std.proofs.Common.{◌≡◌, ℕ, zero, suc, ◌+◌, ◌*◌, ◌-◌, ◌/◌, ◌%◌, ◌^◌, ◌<◌, ◌≤◌, Bool, true, false, ◌&&◌, List, [], ◌∷◌, drop, get_or, length, refl, sym, subst, ◌∙◌, ap, arith, inl, inr, bit_and, count_ones}
use Rattle.std.specs.Prelude.{nat_eq, nat_le}
use Rattle.std.specs.Int.{bit_at}
use Rattle.std.proofs.Math.Nat.{div-one}
use Rattle.std.proofs.lemmas.Bool.{cases_lt}
use Rattle.std.proofs.lemmas.Bool.Decides.{nat_tests}
use Rattle.std.proofs.lemmas.Nat.{and_comm, and_mask, shr-shr, shr_below, mod_below}
use Rattle.std.proofs.lemmas.List.{get_or_past, drop_all, length-drop}
use Rattle.scp_bits.specs.Asking.{ArePassing, IsAsked}
use Rattle.scp_bits.specs.declared.asking.Tally.{Tally}
use Rattle.scp_bits.specs.declared.mask.Mask.{Mask}
use Rattle.scp_bits.specs.Met.{one_where, has_needed, sets_met}
use Rattle.scp_bits.specs.Places.{ones_at, places_in, count_in, count_sets, Compiled, Sets, sets_of}
use Rattle.scp_bits.proofs.Words.{below_pow, common_first, few_common, none_common, nothing, ones_first}
use Rattle.scp_bits.proofs.Weights.{counted}

-- ---- tallies
one_less : (m x : ℕ) → nat_le (m - 1) x ≡ nat_le m (1 + x)
one_less m x = grind (arith, nat_tests)

-- as the code reads it
pub one_passes : (t : Tally) → IsAsked (one_where true) 1 t (record { missing = t.missing - 1; left = t.left - 1 })
one_passes t x y few room = (one_less t.missing x, omega arith)

pub one_fails : (t : Tally) → IsAsked (one_where false) 1 t (record { missing = t.missing; left = t.left - 1 })
one_fails t x y few room =
    let sum : x ≡ 0 + x = omega arith in
    (ap (nat_le t.missing) sum, omega arith)

-- one after another
pub then_asked : (a b m n : ℕ) (old mid now : Tally) → b ≤ n → IsAsked a m old mid → IsAsked b n mid now → IsAsked (a + b) (m + n) old now
then_asked a b m n old mid now few first second x y low room =
    let one = first (b + x) (n + y) (omega arith) (omega arith) in
    let two = second x y low one.1 in
    let sum : a + (b + x) ≡ a + b + x = omega arith in
    (two.0 ∙ (one.0 ∙ ap (nat_le old.missing) sum), two.1)

-- none of these passes
pub none_passes : (n : ℕ) (t : Tally) → IsAsked 0 n t t
none_passes n t x y few room =
    let sum : x ≡ 0 + x = omega arith in
    (ap (nat_le t.missing) sum, omega arith)

closed : (m a x l : ℕ) → (nat_le 1 m && nat_le m l) ≡ false → a + x ≤ l → nat_le m x ≡ nat_le m (a + x)
closed m a x l shut room = grind (arith, nat_tests)

pub not_asked : (a n : ℕ) (t : Tally) → a ≤ n → (nat_le 1 t.missing && nat_le t.missing t.left) ≡ false → IsAsked a n t t
not_asked a n t few shut x y low room = (closed t.missing a x t.left shut (omega arith), omega arith)

-- the tally of all, where enough passed
pub decided : (passed asked : ℕ) (old now : Tally) → passed ≤ asked → asked ≤ old.left → IsAsked passed asked old now → nat_eq now.missing 0 ≡ nat_le old.missing passed
decided passed asked old now few room is =
    let zero_left : nat_eq now.missing 0 ≡ nat_le now.missing 0 = grind (arith, nat_tests) in
    let sum : passed + 0 ≡ passed = omega arith in
    zero_left ∙ ((is 0 0 (omega arith) (omega arith)).0 ∙ ap (nat_le old.missing) sum)

-- ---- a mask, from its lowest bit on
same_counts : (a b m n : ℕ) (old now : Tally) → a ≡ b → m ≡ n → IsAsked a m old now → IsAsked b n old now
same_counts a b m n old now e f = subst (λ (q : ℕ × ℕ). IsAsked q.0 q.1 old now) (λ i. (e i, f i))

-- the words of those that pass, from a bit on
abbrev pub word_from : List ℕ → ℕ → ℕ → ℕ
word_from ws index bit = get_or ws index 0 / 2 ^ bit

pub next_word : (ws : List ℕ) (index bit : ℕ) → word_from ws index (bit + 1) ≡ word_from ws index bit / 2
next_word ws index bit = sym (shr-shr (get_or ws index 0) bit 1)

bit_there : (p : ℕ → Bool) (ws : List ℕ) → ArePassing p ws → (index bit first : ℕ) → first ≡ index * 64 → bit < 64 → word_from ws index bit % 2 ≡ one_where (p (first + bit))
bit_there p ws are index bit first at within =
    let word : (first + bit) / 64 ≡ index = omega arith in
    let low : (first + bit) % 64 ≡ bit = omega arith in
    sym (λ i. bit_at (get_or ws (word i) 0) (low i)) ∙ are.bits (first + bit)

pub half_below : (rest bit : ℕ) → bit < 64 → rest < 2 ^ (64 - bit) → rest / 2 < 2 ^ (64 - (bit + 1))
half_below rest bit within h =
    let room : 64 - bit ≡ 64 - (bit + 1) + 1 = omega arith in
    shr_below rest (64 - (bit + 1)) 1 (subst (λ k. rest < 2 ^ k) room h)

-- while a bit is left, it lies in the word
pub bit_within : (rest bit : ℕ) → rest < 2 ^ (64 - bit) → (rest ≡ 0 → ⊥) → bit < 64
bit_within rest bit low some = elim (cases_lt bit 64) [
  | inl l ↦ l
  | inr m ↦
      let none : 64 - bit ≡ 0 = omega arith in
      let one : rest < 2 ^ 0 = subst (λ k. rest < 2 ^ k) none low in
      absurd (some (omega (arith, one)))
]

-- at first all bits are left
pub whole_word : (ws : List ℕ) (m : Mask) (old t : Tally) → IsAsked (count_ones (bit_and m.bits (word_from ws m.index 0))) (count_ones m.bits) old t → IsAsked (ones_at m ws) (count_ones m.bits) old t
whole_word ws m old t = subst (λ w. IsAsked (count_ones (bit_and m.bits w)) (count_ones m.bits) old t) (div-one (get_or ws m.index 0))

-- its lowest bit, as the code reads it
pub is_odd : (rest : ℕ) → bit_and rest 1 ≡ 1 → rest % 2 ≡ 1
is_odd rest one = sym (and_mask rest 1) ∙ one

pub is_even : (rest : ℕ) → (bit_and rest 1 ≡ 1 → ⊥) → rest % 2 ≡ 0
is_even rest other = elim (cases_lt (rest % 2) 1) [
  | inl l ↦ omega arith
  | inr m ↦ absurd (other (and_mask rest 1 ∙ omega (arith, mod_below rest 2 (omega arith))))
]

-- one whose bit is set is asked
pub set_bit : (p : ℕ → Bool) (ws : List ℕ) → ArePassing p ws → (index bit rest first : ℕ) (old now t : Tally) → first ≡ index * 64 → bit < 64 → rest < 2 ^ 64 → rest % 2 ≡ 1
    → IsAsked (one_where (p (first + bit))) 1 old now
    → IsAsked (count_ones (bit_and (rest / 2) (word_from ws index (bit + 1)))) (count_ones (rest / 2)) now t
    → IsAsked (count_ones (bit_and rest (word_from ws index bit))) (count_ones rest) old t
set_bit p ws are index bit rest first old now t at within short odd asked later =
    let v = word_from ws index bit in
    let d = one_where (p (first + bit)) in
    let above = count_ones (bit_and (rest / 2) (v / 2)) in
    let there : v % 2 ≡ d = bit_there p ws are index bit first at within in
    let one : count_ones (bit_and rest v) ≡ rest % 2 * (v % 2) + above = common_first rest v in
    let product : rest % 2 * (v % 2) ≡ 1 * d = λ i. odd i * there i in
    let next : IsAsked above (count_ones (rest / 2)) now t = subst (λ n. IsAsked (count_ones (bit_and (rest / 2) n)) (count_ones (rest / 2)) now t) (next_word ws index bit) later in
    let few : above ≤ count_ones (rest / 2) = few_common 64 (rest / 2) (v / 2) (omega arith) in
    same_counts (d + above) (count_ones (bit_and rest v)) (1 + count_ones (rest / 2)) (count_ones rest) old t (omega (arith, one, product)) (omega (arith, ones_first rest, odd))
    (then_asked d above 1 (count_ones (rest / 2)) old now t few asked next)

-- one whose bit is not set is not
pub clear_bit : (ws : List ℕ) (index bit rest : ℕ) (old t : Tally) → rest % 2 ≡ 0
    → IsAsked (count_ones (bit_and (rest / 2) (word_from ws index (bit + 1)))) (count_ones (rest / 2)) old t
    → IsAsked (count_ones (bit_and rest (word_from ws index bit))) (count_ones rest) old t
clear_bit ws index bit rest old t even later =
    let v = word_from ws index bit in
    let above = count_ones (bit_and (rest / 2) (v / 2)) in
    let one : count_ones (bit_and rest v) ≡ rest % 2 * (v % 2) + above = common_first rest v in
    let product : rest % 2 * (v % 2) ≡ 0 * (v % 2) = ap (λ n. n * (v % 2)) even in
    let next : IsAsked above (count_ones (rest / 2)) old t = subst (λ n. IsAsked (count_ones (bit_and (rest / 2) n)) (count_ones (rest / 2)) old t) (next_word ws index bit) later in
    same_counts above (count_ones (bit_and rest v)) (count_ones (rest / 2)) (count_ones rest) old t (omega (arith, one, product)) (omega (arith, ones_first rest, even)) next

-- no bit is left
pub no_bit : (rest v : ℕ) (t : Tally) → rest ≡ 0 → IsAsked (count_ones (bit_and rest v)) (count_ones rest) t t
no_bit rest v t e =
    same_counts 0 (count_ones (bit_and rest v)) 0 (count_ones rest) t t (sym (none_common rest v e)) (sym (ap count_ones e ∙ nothing)) (none_passes 0 t)

-- a mask beyond all words
pub beyond : (p : ℕ → Bool) (ws : List ℕ) → ArePassing p ws → (m : Mask) (t : Tally) → 2 ^ 64 ≤ m.index * 64 → IsAsked (ones_at m ws) (count_ones m.bits) t t
beyond p ws are m t high =
    let nowhere : get_or ws m.index 0 ≡ 0 = get_or_past ws m.index 0 (omega (arith, are.short)) in
    let none : ones_at m ws ≡ 0 = ap (λ w. count_ones (bit_and m.bits w)) nowhere ∙ (ap count_ones (and_comm m.bits 0) ∙ none_common 0 m.bits refl) in
    same_counts 0 (ones_at m ws) (count_ones m.bits) (count_ones m.bits) t t (sym none) refl (none_passes (count_ones m.bits) t)

-- ---- masks and inner sets
pub count_at : (ms : List Mask) (i : ℕ) (d : Mask) → i < length ms → count_in (drop i ms) ≡ count_ones (get_or ms i d).bits + count_in (drop (i + 1) ms)
count_at ms i d h =
    let next : suc i ≡ i + 1 = omega arith in
    go ms i h ∙ ap (λ j. count_ones (get_or ms i d).bits + count_in (drop j ms)) next
  where
    go : (ms : List Mask) (i : ℕ) → i < length ms → count_in (drop i ms) ≡ count_ones (get_or ms i d).bits + count_in (drop (suc i) ms)
    go [] i h = absurd (omega arith)
    go (m ∷ ms) zero h = refl
    go (m ∷ ms) (suc i) h = go ms i (omega arith)

few_at : (m : Mask) (ws : List ℕ) → ones_at m ws ≤ count_ones m.bits
few_at m ws = few_common m.bits m.bits (get_or ws m.index 0) (below_pow m.bits)

pub few_places : (ms : List Mask) (ws : List ℕ) → places_in ms ws ≤ count_in ms
few_places [] ws = omega arith
few_places (m ∷ ms) ws = omega (arith, few_at m ws, few_places ms ws)

pub places_at : (ms : List Mask) (i : ℕ) (d : Mask) (ws : List ℕ) → i < length ms → places_in (drop i ms) ws ≡ ones_at (get_or ms i d) ws + places_in (drop (i + 1) ms) ws
places_at ms i d ws h =
    let next : suc i ≡ i + 1 = omega arith in
    go ms i h ∙ ap (λ j. ones_at (get_or ms i d) ws + places_in (drop j ms) ws) next
  where
    go : (ms : List Mask) (i : ℕ) → i < length ms → places_in (drop i ms) ws ≡ ones_at (get_or ms i d) ws + places_in (drop (suc i) ms) ws
    go [] i h = absurd (omega arith)
    go (m ∷ ms) zero h = refl
    go (m ∷ ms) (suc i) h = go ms i (omega arith)

-- one mask after another
pub one_mask : (ms : List Mask) (i : ℕ) (d : Mask) (ws : List ℕ) (old now t : Tally) → i < length ms → IsAsked (ones_at (get_or ms i d) ws) (count_ones (get_or ms i d).bits) old now
    → IsAsked (places_in (drop (i + 1) ms) ws) (count_in (drop (i + 1) ms)) now t → IsAsked (places_in (drop i ms) ws) (count_in (drop i ms)) old t
one_mask ms i d ws old now t h asked later =
    let m = get_or ms i d in
    let rest = drop (i + 1) ms in
    same_counts (ones_at m ws + places_in rest ws) (places_in (drop i ms) ws) (count_ones m.bits + count_in rest) (count_in (drop i ms)) old t (sym (places_at ms i d ws h)) (sym (count_at ms i d h))
    (then_asked (ones_at m ws) (places_in rest ws) (count_ones m.bits) (count_in rest) old now t (few_places rest ws) asked later)

pub no_mask : (ms : List Mask) (i : ℕ) (ws : List ℕ) (t : Tally) → length ms ≤ i → IsAsked (places_in (drop i ms) ws) (count_in (drop i ms)) t t
no_mask ms i ws t h = subst (λ (xs : List Mask). IsAsked (places_in xs ws) (count_in xs) t t) (sym (drop_all i ms h)) (none_passes 0 t)

-- ---- inner sets
one_at_most : (b : Bool) → one_where b ≤ 1
one_at_most true = omega arith
one_at_most false = omega arith

few_sets : (cs : List Compiled) (ws : List ℕ) → sets_met (sets_of cs) ws ≤ length cs
few_sets [] ws = omega arith
few_sets (c ∷ cs) ws = omega (arith, one_at_most (has_needed c ws), few_sets cs ws)

pub sets_at : (cs : List Compiled) (i : ℕ) (d : Compiled) (ws : List ℕ) → i < length cs → sets_met (sets_of (drop i cs)) ws ≡ one_where (has_needed (get_or cs i d) ws) + sets_met (sets_of (drop (i + 1) cs)) ws
sets_at cs i d ws h =
    let next : suc i ≡ i + 1 = omega arith in
    go cs i h ∙ ap (λ j. one_where (has_needed (get_or cs i d) ws) + sets_met (sets_of (drop j cs)) ws) next
  where
    go : (cs : List Compiled) (i : ℕ) → i < length cs → sets_met (sets_of (drop i cs)) ws ≡ one_where (has_needed (get_or cs i d) ws) + sets_met (sets_of (drop (suc i) cs)) ws
    go [] i h = absurd (omega arith)
    go (c ∷ cs) zero h = refl
    go (c ∷ cs) (suc i) h = go cs i (omega arith)

count_left : (cs : List Compiled) (i : ℕ) → i < length cs → length (drop i cs) ≡ 1 + length (drop (i + 1) cs)
count_left cs i h = omega (arith, length-drop i cs, length-drop (i + 1) cs)

-- one inner set after another
pub one_set : (cs : List Compiled) (i : ℕ) (d : Compiled) (ws : List ℕ) (b : Bool) (old now t : Tally) → i < length cs → b ≡ has_needed (get_or cs i d) ws → IsAsked (one_where b) 1 old now
    → IsAsked (sets_met (sets_of (drop (i + 1) cs)) ws) (length (drop (i + 1) cs)) now t → IsAsked (sets_met (sets_of (drop i cs)) ws) (length (drop i cs)) old t
one_set cs i d ws b old now t h is asked later =
    let rest = drop (i + 1) cs in
    same_counts (one_where b + sets_met (sets_of rest) ws) (sets_met (sets_of (drop i cs)) ws) (1 + length rest) (length (drop i cs)) old t
    (ap (λ c. one_where c + sets_met (sets_of rest) ws) is ∙ sym (sets_at cs i d ws h)) (sym (count_left cs i h))
    (then_asked (one_where b) (sets_met (sets_of rest) ws) 1 (length rest) old now t (few_sets rest ws) asked later)

-- or all that are left need not be asked
pub skips_set : (cs : List Compiled) (i : ℕ) (d : Compiled) (ws : List ℕ) (old t : Tally) → i < length cs → (nat_le 1 old.missing && nat_le old.missing old.left) ≡ false
    → IsAsked (sets_met (sets_of (drop (i + 1) cs)) ws) (length (drop (i + 1) cs)) old t → IsAsked (sets_met (sets_of (drop i cs)) ws) (length (drop i cs)) old t
skips_set cs i d ws old t h shut later = one_set cs i d ws (has_needed (get_or cs i d) ws) old old t h refl (not_asked (one_where (has_needed (get_or cs i d) ws)) 1 old (one_at_most (has_needed (get_or cs i d) ws)) shut) later

-- none is left
pub no_set : (cs : List Compiled) (i : ℕ) (ws : List ℕ) (t : Tally) → length cs ≤ i → IsAsked (sets_met (sets_of (drop i cs)) ws) (length (drop i cs)) t t
no_set cs i ws t end = subst (λ (xs : List Compiled). IsAsked (sets_met (sets_of xs) ws) (length xs) t t) (sym (drop_all i cs end)) (none_passes 0 t)

-- masks first, and inner sets then, of no more than so many members
pub all_asked : (c : Compiled) (cs : List Compiled) (ws : List ℕ) (members : ℕ) (mid t : Tally) → sets_of cs ≡ c.inner → count_in c.masks + count_sets c.inner ≤ members
    → IsAsked (places_in c.masks ws) (count_in c.masks) (record { missing = c.needed; left = members }) mid → IsAsked (sets_met (sets_of cs) ws) (length cs) mid t → nat_eq t.missing 0 ≡ has_needed c ws
all_asked c cs ws members mid t shape room first later =
    let start : Tally = record { missing = c.needed; left = members } in
    let many : count_sets c.inner ≡ length cs = ap count_sets (sym shape) ∙ counted cs in
    let all = then_asked (places_in c.masks ws) (sets_met (sets_of cs) ws) (count_in c.masks) (length cs) start mid t (few_sets cs ws) first later in
    decided (places_in c.masks ws + sets_met (sets_of cs) ws) (count_in c.masks + length cs) start t (omega (arith, few_places c.masks ws, few_sets cs ws)) (omega (arith, room, many)) all
    ∙ ap (λ (x : Sets). nat_le c.needed (places_in c.masks ws + sets_met x ws)) shape
