-- One bit of a list of words is changed: put in or cleared.
use Rattle.std.proofs.Common.{◌≡◌, ◌≢◌, ◌==◌, ℕ, ◌-◌, ◌*◌, ◌/◌, ◌%◌, ◌^◌, ◌<◌, cond, List, get_or, set, length, sym, ◌∙◌, ap, arith, inl, inr, bit_and, bit_or, get_or-set_same, get_or-set_other}
use Rattle.std.specs.Int.{bit_at, w64}
use Rattle.std.proofs.lemmas.Bool.{cases_eq, eq-eqb, ne_eqb}
use Rattle.std.proofs.lemmas.Nat.{mod_below}
use Rattle.std.proofs.lemmas.Nat.Bits.{bit_at_clear_same, bit_at_clear_other, bit_at_set_same, bit_at_set_other}
use Rattle.std.proofs.lemmas.List.{length-set}
use Rattle.scp_bits.specs.Places.{bit_of}
use Rattle.scp_bits.specs.Met.{IsAdded, IsCleared}

-- one bit of a word is now this, and all others are as they were
abbrev IsBitOf : ℕ → ℕ → ℕ → ℕ → Type 0
IsBitOf bit k word now = (bit_at now k ≡ bit) × ((i : ℕ) → i < 64 → i ≢ k → bit_at now i ≡ bit_at word i)

changed : (bit : ℕ) (ws : List ℕ) (place now : ℕ) → place / 64 < length ws → IsBitOf bit (place % 64) (get_or ws (place / 64) 0) now
    → (i : ℕ) → bit_of (set ws (place / 64) now) i ≡ cond (place == i) bit (bit_of ws i)
changed bit ws place now within is i =
    let index = place / 64 in
    let words = set ws index now in
    elim (cases_eq place i) [
      | inl e ↦
          let same : get_or words (i / 64) 0 ≡ now = ap (λ j. get_or words (j / 64) 0) (sym e) ∙ get_or-set_same ws index now 0 within in
          let at : bit_of words i ≡ bit = ap (λ w. bit_at w (i % 64)) same ∙ ap (λ j. bit_at now (j % 64)) (sym e) ∙ is.0 in
          at ∙ sym (ap (λ b. cond b bit (bit_of ws i)) (eq-eqb place i e))
      | inr apart ↦
          let kept : bit_of words i ≡ bit_of ws i = elim (cases_eq (i / 64) index) [
            | inl e ↦
                let other : i % 64 ≢ place % 64 = λ f. apart (omega arith) in
                let same : get_or words (i / 64) 0 ≡ now = ap (λ j. get_or words j 0) e ∙ get_or-set_same ws index now 0 within in
                ap (λ w. bit_at w (i % 64)) same ∙ is.1 (i % 64) (mod_below i 64 (omega arith)) other ∙ ap (λ j. bit_at (get_or ws j 0) (i % 64)) (sym e)
            | inr f ↦ ap (λ w. bit_at w (i % 64)) (get_or-set_other ws index (i / 64) now 0 f)
          ] in
          kept ∙ sym (ap (λ b. cond b bit (bit_of ws i)) (ne_eqb place i apart))
    ]

within_word : (place : ℕ) → place % 64 < 64
within_word place = mod_below place 64 (omega arith)

abbrev without : ℕ → ℕ → ℕ
without w k = bit_and w (18446744073709551615 - 1 * 2 ^ k % 18446744073709551616)

pub cleared : (ws : List ℕ) (place : ℕ) → place / 64 < length ws → IsCleared place ws (set ws (place / 64) (without (get_or ws (place / 64) 0) (place % 64)))
cleared ws place within =
    let k = place % 64 in
    let word = get_or ws (place / 64) 0 in (
      length-set ws (place / 64) (without word k),
      changed 0 ws place (without word k) within (bit_at_clear_same w64 word k (within_word place), bit_at_clear_other w64 word k (within_word place)),
    )

abbrev with : ℕ → ℕ → ℕ
with w k = bit_or w (1 * 2 ^ k % 18446744073709551616)

pub added : (ws : List ℕ) (place : ℕ) → place / 64 < length ws → IsAdded place ws (set ws (place / 64) (with (get_or ws (place / 64) 0) (place % 64)))
added ws place within =
    let k = place % 64 in
    let word = get_or ws (place / 64) 0 in (
      length-set ws (place / 64) (with word k),
      changed 1 ws place (with word k) within (bit_at_set_same w64 word k (within_word place), λ i _ apart. bit_at_set_other w64 word k (within_word place) i apart),
    )

-- the words with a place put in
pub with_place : (ws : List ℕ) (place : ℕ) → place / 64 < length ws → (now : List ℕ) × IsAdded place ws now
with_place ws place within = (set ws (place / 64) (with (get_or ws (place / 64) 0) (place % 64)), added ws place within)
