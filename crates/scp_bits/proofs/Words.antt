-- Bits of words, and how many of them are set.
use Rattle.std.proofs.Common.{◌≡◌, ℕ, zero, suc, ◌+◌, ◌*◌, ◌/◌, ◌%◌, ◌^◌, ◌<◌, ◌≤◌, List, [], ◌∷◌, ◌++◌, get_or, set, length, refl, sym, ◌∙◌, ap, arith, bit_and, bit_or, count_ones}
use Rattle.std.specs.Int.{bit_at}
use Rattle.std.specs.Int.Bits.{and_self}
use Rattle.std.proofs.lemmas.Nat.{and_block, and_comm, and_le_l, ones_cat, shr_split, pow_pos, or_disjoint, mod_below, one_shl}
use Rattle.std.proofs.lemmas.Nat.Bits.{and_pow}
use Rattle.scp_bits.specs.declared.mask.Mask.{Mask}
use Rattle.scp_bits.specs.Places.{bit_of, count_in, ones_at, places_in, is_free}

pub nothing : count_ones 0 ≡ 0
unfolding lib.Count.ones
nothing = refl

and_bit : (d : ℕ) → d < 2 → (bit_and 0 d ≡ 0) × (bit_and 1 d ≡ d) × (count_ones d ≡ d)
unfolding lib.Count.ones
and_bit zero h = (refl, refl, refl)
and_bit (suc zero) h = (refl, refl, refl)
and_bit (suc (suc d)) h = absurd (omega arith)

zero_of : (d p : ℕ) → 0 < p → d < 2 → d * p ≡ 0 → d ≡ 0
zero_of zero p some low h = refl
zero_of (suc zero) p some low h = absurd (omega arith)
zero_of (suc (suc d)) p some low h = absurd (omega arith)

pub bit_below : (n k : ℕ) → bit_at n k < 2
bit_below n k = mod_below (n / 2 ^ k) 2 (omega arith)

-- one bit, of an even number and another
lowest : (a b : ℕ) → a % 2 ≡ 0 → count_ones (bit_and (a + 1) b) ≡ count_ones (bit_and a b) + b % 2
lowest a b even =
    let d = b % 2 in
    let low : d < 2 = mod_below b 2 (omega arith) in
    let bits = and_bit d low in
    let a_is : a ≡ a / 2 * 2 ^ 1 + 0 = omega (arith, shr_split a 1) in
    let more_is : a + 1 ≡ a / 2 * 2 ^ 1 + 1 = omega (arith, shr_split a 1) in
    let b_is : b ≡ b / 2 * 2 ^ 1 + d = omega (arith, shr_split b 1) in
    let without : bit_and a b ≡ bit_and (a / 2) (b / 2) * 2 ^ 1 + 0 =
    (λ i. bit_and (a_is i) (b_is i)) ∙ (and_block 1 (a / 2) (b / 2) 0 d (omega arith) low ∙ ap (λ x. bit_and (a / 2) (b / 2) * 2 ^ 1 + x) bits.0) in
    let with_it : bit_and (a + 1) b ≡ bit_and (a / 2) (b / 2) * 2 ^ 1 + d =
    (λ i. bit_and (more_is i) (b_is i)) ∙ (and_block 1 (a / 2) (b / 2) 1 d (omega arith) low ∙ ap (λ x. bit_and (a / 2) (b / 2) * 2 ^ 1 + x) bits.1) in
    let one = ap count_ones with_it ∙ ones_cat 1 (bit_and (a / 2) (b / 2)) d low in
    let two = ap count_ones without ∙ ones_cat 1 (bit_and (a / 2) (b / 2)) 0 (omega arith) in
    omega (arith, one, two, bits.2, nothing)

-- a word with one bit more has one place more, where the other word has that bit
pub one_more : (k m w : ℕ) → bit_and m (2 ^ k) ≡ 0 → count_ones (bit_and (bit_or m (2 ^ k)) w) ≡ count_ones (bit_and m w) + bit_at w k
one_more k m w free =
    let p = 2 ^ k in
    let a = m / p in
    let b = w / p in
    let low_m : m % p < p = mod_below m p (pow_pos k) in
    let low_w : w % p < p = mod_below w p (pow_pos k) in
    let even : a % 2 ≡ 0 = zero_of (bit_at m k) p (pow_pos k) (bit_below m k) (sym (and_pow m k) ∙ free) in
    let m_is : m ≡ a * p + m % p = sym (shr_split m k) in
    let w_is : w ≡ b * p + w % p = sym (shr_split w k) in
    let joined : bit_or m p ≡ m + p = or_disjoint m p free in
    let next : (a + 1) * p ≡ a * p + p = grind arith in
    let more_is : bit_or m p ≡ (a + 1) * p + m % p = omega (arith, joined, m_is, next) in
    let low : bit_and (m % p) (w % p) < p = omega (arith, and_le_l (m % p) (w % p), low_m) in
    let one = ap count_ones ((λ i. bit_and (more_is i) (w_is i)) ∙ and_block k (a + 1) b (m % p) (w % p) low_m low_w) ∙ ones_cat k (bit_and (a + 1) b) (bit_and (m % p) (w % p)) low in
    let two = ap count_ones ((λ i. bit_and (m_is i) (w_is i)) ∙ and_block k a b (m % p) (w % p) low_m low_w) ∙ ones_cat k (bit_and a b) (bit_and (m % p) (w % p)) low in
    omega (arith, one, two, lowest a b even)

-- a word with one bit alone
pub one_alone : (k w : ℕ) → count_ones (bit_and (2 ^ k) w) ≡ bit_at w k
one_alone k w =
    let d = bit_at w k in
    let is : bit_and (2 ^ k) w ≡ d * 2 ^ k + 0 = omega (arith, and_comm (2 ^ k) w, and_pow w k) in
    omega (arith, ap count_ones is, ones_cat k d 0 (pow_pos k), (and_bit d (bit_below w k)).2, nothing)

-- the lowest bit and those above it
pub lowest_first : (b w : ℕ) → count_ones (bit_and b w) ≡ count_ones (bit_and (b % 2) (w % 2)) + count_ones (bit_and (b / 2) (w / 2))
lowest_first b w =
    let low_b : b % 2 < 2 = mod_below b 2 (omega arith) in
    let low_w : w % 2 < 2 = mod_below w 2 (omega arith) in
    let b_is : b ≡ b / 2 * 2 ^ 1 + b % 2 = omega (arith, shr_split b 1) in
    let w_is : w ≡ w / 2 * 2 ^ 1 + w % 2 = omega (arith, shr_split w 1) in
    let low : bit_and (b % 2) (w % 2) < 2 ^ 1 = low_and (b % 2) (w % 2) low_b low_w in
    let one = ap count_ones ((λ i. bit_and (b_is i) (w_is i)) ∙ and_block 1 (b / 2) (w / 2) (b % 2) (w % 2) low_b low_w) ∙ ones_cat 1 (bit_and (b / 2) (w / 2)) (bit_and (b % 2) (w % 2)) low in
    omega (arith, one)
  where
    low_and : (c v : ℕ) → c < 2 → v < 2 → bit_and c v < 2 ^ 1
    low_and zero v h k = omega (arith, (and_bit v k).0)
    low_and (suc zero) v h k = omega (arith, (and_bit v k).1)
    low_and (suc (suc c)) v h k = absurd (omega arith)

pub ones_first : (b : ℕ) → count_ones b ≡ b % 2 + count_ones (b / 2)
ones_first b =
    let low : b % 2 < 2 = mod_below b 2 (omega arith) in
    let b_is : b ≡ b / 2 * 2 ^ 1 + b % 2 = omega (arith, shr_split b 1) in
    let one = ap count_ones b_is ∙ ones_cat 1 (b / 2) (b % 2) low in
    omega (arith, one, (and_bit (b % 2) low).2)

-- one bit of each
common_bit : (c v : ℕ) → c < 2 → v < 2 → count_ones (bit_and c v) ≡ c * v
common_bit zero v h k = omega (arith, ap count_ones (and_bit v k).0, nothing)
common_bit (suc zero) v h k = omega (arith, ap count_ones (and_bit v k).1, (and_bit v k).2)
common_bit (suc (suc c)) v h k = absurd (omega arith)

pub common_first : (b w : ℕ) → count_ones (bit_and b w) ≡ b % 2 * (w % 2) + count_ones (bit_and (b / 2) (w / 2))
common_first b w = lowest_first b w ∙ ap (λ n. n + count_ones (bit_and (b / 2) (w / 2))) (common_bit (b % 2) (w % 2) (mod_below b 2 (omega arith)) (mod_below w 2 (omega arith)))

few_bits : (c v : ℕ) → c < 2 → v < 2 → c * v ≤ c
few_bits zero v h k = omega arith
few_bits (suc zero) v h k = omega arith
few_bits (suc (suc c)) v h k = absurd (omega arith)

pub none_common : (b w : ℕ) → b ≡ 0 → count_ones (bit_and b w) ≡ 0
none_common b w e = let less = and_le_l b w in ap count_ones (omega (arith, less, e)) ∙ nothing

-- no more bits are common to two words than one of them has
pub few_common : (fuel b w : ℕ) → b < 2 ^ fuel → count_ones (bit_and b w) ≤ count_ones b
few_common zero b w h = omega (arith, none_common b w (omega arith))
few_common (suc fuel) b w h =
    let half : b / 2 < 2 ^ fuel = omega arith in
    omega (arith, common_first b w, ones_first b, few_common fuel (b / 2) (w / 2) half, few_bits (b % 2) (w % 2) (mod_below b 2 (omega arith)) (mod_below w 2 (omega arith)))

pub below_pow : (n : ℕ) → n < 2 ^ n
below_pow zero = omega arith
below_pow (suc n) = omega (arith, below_pow n)

-- a bit more makes no more than one more
pub few_more : (m k : ℕ) → bit_and m (2 ^ k) ≡ 0 → count_ones (bit_or m (2 ^ k)) ≤ count_ones m + 1
few_more m k free =
    let more = bit_or m (2 ^ k) in
    let all : count_ones (bit_and more more) ≡ count_ones more = ap count_ones (and_self more) in
    let low : bit_at more k < 2 = bit_below more k in
    omega (arith, one_more k m more free, all, low, few_common m m more (below_pow m))

few_alone : (k : ℕ) → count_ones (2 ^ k) ≤ 1
few_alone k =
    let all : count_ones (bit_and (2 ^ k) (2 ^ k)) ≡ count_ones (2 ^ k) = ap count_ones (and_self (2 ^ k)) in
    let low : bit_at (2 ^ k) k < 2 = bit_below (2 ^ k) k in
    omega (arith, one_alone k (2 ^ k), all, low)

-- ---- in a list of masks
places_after : (ms : List Mask) (m : Mask) (ws : List ℕ) → places_in (ms ++ m ∷ []) ws ≡ places_in ms ws + ones_at m ws
places_after [] m ws = omega arith
places_after (n ∷ ms) m ws = omega (arith, places_after ms m ws)

places_set : (ms : List Mask) (i : ℕ) (m d : Mask) (ws : List ℕ) (n : ℕ) → i < length ms → ones_at m ws ≡ ones_at (get_or ms i d) ws + n → places_in (set ms i m) ws ≡ places_in ms ws + n
places_set [] i m d ws n within e = absurd (omega arith)
places_set (x ∷ ms) zero m d ws n within e = omega (arith, e)
places_set (x ∷ ms) (suc i) m d ws n within e = omega (arith, places_set ms i m d ws n (omega arith) e)

-- a place as a mask of its own
pub added_alone : (ms now : List Mask) (place : ℕ) → now ≡ ms ++ record { index = place / 64; bits = (1 * 2 ^ (place % 64)) % 2 ^ 64 } ∷ []
    → (ws : List ℕ) → places_in now ws ≡ places_in ms ws + bit_of ws place
added_alone ms now place is ws =
    let k = place % 64 in
    let w = get_or ws (place / 64) 0 in
    let bit = one_shl k 64 (mod_below place 64 (omega arith)) in
    ap (λ (xs : List Mask). places_in xs ws) is
    ∙ (places_after ms (record { index = place / 64; bits = (1 * 2 ^ k) % 2 ^ 64 }) ws
    ∙ ap (λ x. places_in ms ws + x) (ap (λ x. count_ones (bit_and x w)) bit ∙ one_alone k w))

-- a place in a mask of its word
pub added_to : (ms : List Mask) (i place : ℕ) (d : Mask) → i < length ms → is_free (place / 64) ((1 * 2 ^ (place % 64)) % 2 ^ 64) (get_or ms i d)
    → (bits : ℕ) → bits ≡ bit_or (get_or ms i d).bits ((1 * 2 ^ (place % 64)) % 2 ^ 64)
    → (ws : List ℕ) → places_in (set ms i (record { index = place / 64; bits = bits })) ws ≡ places_in ms ws + bit_of ws place
added_to ms i place d within free bits is ws =
    let k = place % 64 in
    let old = get_or ms i d in
    let w = get_or ws (place / 64) 0 in
    let bit = one_shl k 64 (mod_below place 64 (omega arith)) in
    let apart : bit_and old.bits (2 ^ k) ≡ 0 = ap (bit_and old.bits) (sym bit) ∙ free.1 in
    let here : count_ones (bit_and old.bits (get_or ws old.index 0)) ≡ count_ones (bit_and old.bits w) = ap (λ j. count_ones (bit_and old.bits (get_or ws j 0))) free.0 in
    let grown : count_ones (bit_and bits w) ≡ count_ones (bit_and old.bits w) + bit_at w k = ap (λ x. count_ones (bit_and x w)) (is ∙ ap (bit_or old.bits) bit) ∙ one_more k old.bits w apart in
    places_set ms i (record { index = place / 64; bits = bits }) d ws (bit_of ws place) within (omega (arith, grown, here))

-- ---- and how many they have
count_after : (ms : List Mask) (m : Mask) → count_in (ms ++ m ∷ []) ≡ count_in ms + count_ones m.bits
count_after [] m = omega arith
count_after (n ∷ ms) m = omega (arith, count_after ms m)

count_set : (ms : List Mask) (i : ℕ) (m d : Mask) → i < length ms → count_ones m.bits ≤ count_ones (get_or ms i d).bits + 1 → count_in (set ms i m) ≤ count_in ms + 1
count_set [] i m d within h = absurd (omega arith)
count_set (x ∷ ms) zero m d within h = omega (arith, h)
count_set (x ∷ ms) (suc i) m d within h = omega (arith, count_set ms i m d (omega arith) h)

pub counted_alone : (ms now : List Mask) (place : ℕ) → now ≡ ms ++ record { index = place / 64; bits = (1 * 2 ^ (place % 64)) % 2 ^ 64 } ∷ [] → count_in now ≤ count_in ms + 1
counted_alone ms now place is =
    let k = place % 64 in
    let bit = one_shl k 64 (mod_below place 64 (omega arith)) in
    let m : Mask = record { index = place / 64; bits = (1 * 2 ^ k) % 2 ^ 64 } in
    omega (arith, ap count_in is, count_after ms m, ap count_ones bit, few_alone k)

pub counted_to : (ms : List Mask) (i place : ℕ) (d : Mask) → i < length ms → is_free (place / 64) ((1 * 2 ^ (place % 64)) % 2 ^ 64) (get_or ms i d)
    → (bits : ℕ) → bits ≡ bit_or (get_or ms i d).bits ((1 * 2 ^ (place % 64)) % 2 ^ 64) → count_in (set ms i (record { index = place / 64; bits = bits })) ≤ count_in ms + 1
counted_to ms i place d within free bits is =
    let k = place % 64 in
    let old = get_or ms i d in
    let bit = one_shl k 64 (mod_below place 64 (omega arith)) in
    let apart : bit_and old.bits (2 ^ k) ≡ 0 = ap (bit_and old.bits) (sym bit) ∙ free.1 in
    let grown : count_ones bits ≤ count_ones old.bits + 1 = omega (arith, ap count_ones (is ∙ ap (bit_or old.bits) bit), few_more old.bits k apart) in
    count_set ms i (record { index = place / 64; bits = bits }) d within grown
