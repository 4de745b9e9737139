-- Sets of places as words: the first place of one, and the places of two.
use Rattle.std.proofs.Common.{◌≡◌, ◌≢◌, ℕ, ◌+◌, ◌*◌, ◌/◌, ◌%◌, ◌^◌, ◌<◌, ◌≤◌, max, List, get_or, set, length, sym, ◌∙◌, ap, ap₂, arith, inl, inr, bit_or, get_or-set_same, get_or-set_other}
use Rattle.std.specs.Int.{bit_at, trailing_zeros, w64}
use Rattle.std.proofs.lemmas.Bool.{cases_eq}
use Rattle.std.proofs.lemmas.List.{get_or_past, length-set}
use Rattle.std.proofs.lemmas.Nat.Bits.{bit_at_or, bit_at-trailing_zeros, bit_at-zero}
use Rattle.scp_bits.specs.Places.{bit_of}

-- behind the last word there is no place
pub none_behind : (ws : List ℕ) (i : ℕ) → length ws ≤ i / 64 → bit_of ws i ≡ 0
none_behind ws i behind = ap (λ w. bit_at w (i % 64)) (get_or_past ws (i / 64) 0 behind) ∙ bit_at-zero (i % 64)

-- ---- the first place
-- the first words have no place
abbrev pub AreEmpty : ℕ → List ℕ → Type 0
AreEmpty n ws = (i : ℕ) → i / 64 < n → bit_of ws i ≡ 0

place_at : (ws : List ℕ) (n t : ℕ) → t < 64 → bit_at (get_or ws n 0) t ≡ 1 → bit_of ws (64 * n + t) ≡ 1
place_at ws n t within is =
    let index : (64 * n + t) / 64 ≡ n = omega (arith, within) in
    let bit : (64 * n + t) % 64 ≡ t = omega (arith, within) in
    ap₂ (λ j k. bit_at (get_or ws j 0) k) index bit ∙ is

pub first_found : (ws : List ℕ) (n word : ℕ) → word ≡ get_or ws n 0 → word ≢ 0 → word < 2 ^ 64 → bit_of ws (64 * n + trailing_zeros w64 word) ≡ 1
first_found ws n word is some fits =
    let found = bit_at-trailing_zeros w64 word (omega (arith, some)) fits in
    place_at ws n (trailing_zeros w64 word) found.0 (ap (λ w. bit_at w (trailing_zeros w64 word)) (sym is) ∙ found.1)

-- ---- the places of two sets
-- the first words have the places of both, and the others are as they were
pub record JoinedTo (n : ℕ) (old more new : List ℕ) : Type 0 where
  pub as_many : length new ≡ length old
  pub before : (i : ℕ) → i / 64 < n → i / 64 < length old → bit_of new i ≡ max (bit_of old i) (bit_of more i)
  pub behind : (i : ℕ) → n ≤ i / 64 → bit_of new i ≡ bit_of old i

module _ (n : ℕ) (old more ws : List ℕ) (so_far : JoinedTo n old more ws) where
  -- one word more
  pub one_joined : n < length ws → JoinedTo (n + 1) old more (set ws n (bit_or (get_or ws n 0) (get_or more n 0)))
  one_joined inside = record {
    as_many = length-set ws n now ∙ so_far.as_many;
    before = λ i within short. elim (cases_eq (i / 64) n) [
      | inl here ↦
          let at : bit_of (set ws n now) i ≡ bit_at now (i % 64) = ap (λ w. bit_at w (i % 64)) (ap (λ k. get_or (set ws n now) k 0) here ∙ get_or-set_same ws n now 0 inside) in
          at ∙ bit_at_or (get_or ws n 0) (get_or more n 0) (i % 64) ∙ ap (λ k. max (bit_at (get_or ws k 0) (i % 64)) (bit_at (get_or more k 0) (i % 64))) (sym here) ∙ ap (λ b. max b (bit_of more i)) (so_far.behind i (omega (arith, here)))
      | inr there ↦ elsewhere i there ∙ so_far.before i (under i within there) short
    ];
    behind = λ i within. elsewhere i (beyond i within) ∙ so_far.behind i (omega (arith, within));
  }
    where
      now : ℕ
      now = bit_or (get_or ws n 0) (get_or more n 0)

      elsewhere : (i : ℕ) → i / 64 ≢ n → bit_of (set ws n now) i ≡ bit_of ws i
      elsewhere i there = ap (λ w. bit_at w (i % 64)) (get_or-set_other ws n (i / 64) now 0 there)

      under : (i : ℕ) → i / 64 < n + 1 → i / 64 ≢ n → i / 64 < n
      under i within there = omega (arith, within, there)

      beyond : (i : ℕ) → n + 1 ≤ i / 64 → i / 64 ≢ n
      beyond i within is = omega (arith, within, is)

  -- there is no such word
  pub none_more : length ws ≤ n → JoinedTo (n + 1) old more ws
  none_more end = record {
    as_many = so_far.as_many;
    before = λ i within short. so_far.before i (omega (arith, end, short, so_far.as_many)) short;
    behind = λ i within. so_far.behind i (omega (arith, within));
  }
