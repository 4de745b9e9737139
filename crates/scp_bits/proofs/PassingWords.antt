-- Words for the set of all places that pass, where none of them lies beyond all nodes.
use Rattle.std.proofs.Common.{◌≡◌, ℕ, zero, suc, ◌+◌, ◌/◌, ◌%◌, ◌^◌, ◌<◌, ◌≤◌, Bool, true, false, cond, List, get_or, length, replicate, sym, ◌∙◌, ap, arith, inl, inr}
use Rattle.std.specs.Int.{bit_at}
use Rattle.std.proofs.lemmas.Bool.{cases_lt, cases_Bool, eq-eqb, ne_eqb}
use Rattle.std.proofs.lemmas.List.{get_or-replicate, get_or_past, length-replicate}
use Rattle.std.proofs.lemmas.Nat.{shr_le}
use Rattle.scp_bits.specs.Asking.{ArePassing}
use Rattle.scp_bits.specs.Met.{one_where}
use Rattle.scp_bits.specs.Places.{bit_of}
use Rattle.scp_bits.proofs.Clearing.{with_place}

-- words for the first places that pass
record Filled (n : ℕ) (p : ℕ → Bool) (k : ℕ) : Type 0 where
  words : List ℕ
  many : length words ≡ n / 64 + 1
  before : (i : ℕ) → i < k → bit_of words i ≡ one_where (p i)
  after : (i : ℕ) → k ≤ i → bit_of words i ≡ 0

abbrev no_words : ℕ → List ℕ
no_words m = replicate m 0

as_many : (m : ℕ) → length (no_words m) ≡ m
as_many m = let nothing : ℕ = 0 in length-replicate m nothing

no_bit : (m i : ℕ) → get_or (no_words m) i 0 ≡ 0
no_bit m i = elim (cases_lt i m) [
  | inl l ↦ get_or-replicate m i 0 0 l
  | inr past ↦ get_or_past (no_words m) i 0 (omega (arith, past, as_many m))
]

no_bits : (n i : ℕ) → bit_of (no_words (n / 64 + 1)) i ≡ 0
no_bits n i =
    let low : 0 / 2 ^ (i % 64) ≤ 0 = shr_le 0 (i % 64) in
    let none : 0 / 2 ^ (i % 64) ≡ 0 = omega (arith, low) in
    ap (λ w. bit_at w (i % 64)) (no_bit (n / 64 + 1) (i / 64)) ∙ ap (λ w. w % 2) none

begun : (n : ℕ) (p : ℕ → Bool) → Filled n p 0
begun n p = record {
  words = no_words (n / 64 + 1);
  many = as_many (n / 64 + 1);
  before = λ i h. absurd (omega arith);
  after = λ i h. no_bits n i;
}

passes : (n : ℕ) (p : ℕ → Bool) (k : ℕ) → k < n → p k ≡ true → Filled n p k → Filled n p (suc k)
passes n p k within is so_far =
    let next = with_place so_far.words k (omega (arith, so_far.many)) in
    record {
      words = next.0;
      many = omega (arith, next.1.0, so_far.many);
      before = λ i h. elim (cases_lt i k) [
        | inl l ↦ next.1.1 i ∙ (ap (λ b. cond b 1 (bit_of so_far.words i)) (ne_eqb k i (λ e. absurd (omega arith))) ∙ so_far.before i l)
        | inr m ↦
            let same : k ≡ i = omega arith in
            next.1.1 i ∙ (ap (λ b. cond b 1 (bit_of so_far.words i)) (eq-eqb k i same) ∙ sym (ap (λ j. one_where (p j)) (sym same) ∙ ap one_where is))
      ];
      after = λ i h. next.1.1 i ∙ (ap (λ b. cond b 1 (bit_of so_far.words i)) (ne_eqb k i (λ e. absurd (omega arith))) ∙ so_far.after i (omega arith));
    }

fails : (n : ℕ) (p : ℕ → Bool) (k : ℕ) → p k ≡ false → Filled n p k → Filled n p (suc k)
fails n p k other so_far = record {
  words = so_far.words;
  many = so_far.many;
  before = λ i h. elim (cases_lt i k) [
    | inl l ↦ so_far.before i l
    | inr m ↦
        let same : k ≡ i = omega arith in
        so_far.after i (omega arith) ∙ sym (ap (λ j. one_where (p j)) (sym same) ∙ ap one_where other)
  ];
  after = λ i h. so_far.after i (omega arith);
}

filled : (n : ℕ) (p : ℕ → Bool) (k : ℕ) → k ≤ n → Filled n p k
filled n p zero h = begun n p
filled n p (suc k) h = elim (cases_Bool (p k)) [
  | inl is ↦ passes n p k (omega arith) is (filled n p k (omega arith))
  | inr other ↦ fails n p k other (filled n p k (omega arith))
]

pub passing_words : (n : ℕ) (p : ℕ → Bool) → n < 2 ^ 64 → ((i : ℕ) → n ≤ i → p i ≡ false) → (ws : List ℕ) × ArePassing p ws
passing_words n p few none =
    let all = filled n p n (omega arith) in (
      all.words,
      record {
        bits = λ i. elim (cases_lt i n) [
          | inl l ↦ all.before i l
          | inr m ↦ all.after i m ∙ sym (ap one_where (none i m))
        ];
        short = omega (arith, all.many);
      },
    )
