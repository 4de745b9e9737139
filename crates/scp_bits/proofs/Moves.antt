-- Compiled sets whose places move.
use Rattle.std.proofs.Common.{◌≡◌, ℕ, suc, ◌+◌, ◌*◌, ◌/◌, ◌%◌, ◌<◌, Bool, true, false, ◌&&◌, ◌==◌, List, [], ◌∷◌, get_or, length, refl, sym, ◌∙◌, ap, inl, inr, arith, bit_and, count_ones}
use Rattle.std.specs.Prelude.{nat_lt}
use Rattle.std.specs.Int.{bit_at}
use Rattle.std.proofs.lemmas.Bool.{cases_Bool, cases_lt, or_cases, eq-eqb, eqb-true, lt-ltb, le-ltb, false≢true, true≢false}
use Rattle.scp_types.specs.Trees.{Slices}
use Rattle.scp_spec.specs.Satisfaction.{names}
use Rattle.scp_spec.specs.Sets.{among, AreWithin}
use Rattle.scp_spec.proofs.Slices.Satisfaction.{sat_local}
use Rattle.scp_bits.specs.Places.{bit_of, Compiled}
use Rattle.scp_bits.specs.Met.{IsCompiled, one_where, nodes_at}
use Rattle.scp_bits.specs.Moving.{AreMoved, IsBefore, IsMoved}
use Rattle.scp_bits.proofs.PassingWords.{passing_words}
use Rattle.scp_bits.proofs.Picking.{bit_is}
use Rattle.scp_bits.proofs.Tallies.{next_word, word_from}
use Rattle.scp_bits.proofs.Words.{bit_below, common_first}

-- ---- a mask, from its lowest bit on
bit_there : (ws : List ℕ) (index bit first : ℕ) → first ≡ index * 64 → bit < 64 → word_from ws index bit % 2 ≡ bit_of ws (first + bit)
bit_there ws index bit first at within =
    let word : (first + bit) / 64 ≡ index = omega arith in
    let low : (first + bit) % 64 ≡ bit = omega arith in
    sym (λ i. bit_at (get_or ws (word i) 0) (low i))

-- one whose bit is set
pub set_bit : (ws : List ℕ) (index bit rest first : ℕ) → first ≡ index * 64 → bit < 64 → rest % 2 ≡ 1
    → count_ones (bit_and rest (word_from ws index bit)) ≡ bit_of ws (first + bit) + count_ones (bit_and (rest / 2) (word_from ws index (bit + 1)))
set_bit ws index bit rest first at within odd =
    let v = word_from ws index bit in
    let product : rest % 2 * (v % 2) ≡ 1 * bit_of ws (first + bit) = λ i. odd i * bit_there ws index bit first at within i in
    let later : count_ones (bit_and (rest / 2) (word_from ws index (bit + 1))) ≡ count_ones (bit_and (rest / 2) (v / 2)) = ap (λ w. count_ones (bit_and (rest / 2) w)) (next_word ws index bit) in
    omega (arith, common_first rest v, product, later)

-- and one whose bit is not
pub clear_bit : (ws : List ℕ) (index bit rest : ℕ) → rest % 2 ≡ 0 → count_ones (bit_and rest (word_from ws index bit)) ≡ count_ones (bit_and (rest / 2) (word_from ws index (bit + 1)))
clear_bit ws index bit rest even =
    let v = word_from ws index bit in
    let product : rest % 2 * (v % 2) ≡ 0 * (v % 2) = ap (λ n. n * (v % 2)) even in
    let later : count_ones (bit_and (rest / 2) (word_from ws index (bit + 1))) ≡ count_ones (bit_and (rest / 2) (v / 2)) = ap (λ w. count_ones (bit_and (rest / 2) w)) (next_word ws index bit) in
    omega (arith, common_first rest v, product, later)

-- ---- the words before
-- each set of places was some set of places before
before : (us vs places ws : List ℕ) → AreMoved us vs places → (bs : List ℕ) × IsBefore places bs ws
before us vs places ws moved =
    let here : ℕ → Bool = λ i. nat_lt i (length us) && (bit_of ws (get_or places i 0) == 1) in
    let found = passing_words (length us) here moved.few (λ i out. ap (λ b. b && (bit_of ws (get_or places i 0) == 1)) (le-ltb i (length us) out)) in (
      found.0,
      record {
        within = λ i l. found.1.bits i ∙ (ap (λ b. one_where (b && (bit_of ws (get_or places i 0) == 1))) (lt-ltb i (length us) (omega (arith, l, moved.counted))) ∙ bit_again (bit_of ws (get_or places i 0)) (bit_below _ _));
        beyond = λ i l. found.1.bits i ∙ ap (λ b. one_where (b && (bit_of ws (get_or places i 0) == 1))) (le-ltb i (length us) (omega (arith, l, moved.counted)));
        short = found.1.short;
      },
    )
  where
    bit_again : (b : ℕ) → b < 2 → one_where (b == 1) ≡ b
    bit_again b small = elim (cases_Bool (b == 1)) [
      | inl one ↦ ap one_where one ∙ sym (eqb-true b 1 one)
      | inr other ↦ ap one_where other ∙ elim (cases_lt b 1) [
        | inl none ↦ omega (arith, none)
        | inr some ↦ absurd (true≢false (sym (eq-eqb b 1 (omega (arith, small, some))) ∙ other))
      ]
    ]

-- ---- the slices
one_apart : (a b : Bool) → one_where a ≡ one_where b → a ≡ b
one_apart true true e = refl
one_apart true false e = absurd (omega (arith, e))
one_apart false true e = absurd (omega (arith, e))
one_apart false false e = refl

-- where a node stands that is listed
pub place_among : (us : List ℕ) (u : ℕ) → among us u ≡ true → (i : ℕ) × (i < length us) × (get_or us i 0 ≡ u)
place_among [] u h = absurd (false≢true h)
place_among (x ∷ xs) u h = elim (or_cases (x == u) (among xs u) h) [
  | inl e ↦ (0, omega arith, eqb-true x u e)
  | inr i ↦ let r = place_among xs u i in (suc r.0, (let l = r.1 in omega arith), r.2)
]

-- a name is of a node that is picked now where it was picked before
pub picked_alike : (us vs places bs ws : List ℕ) (u : ℕ) → AreMoved us vs places → IsBefore places bs ws → among us u ≡ true → among vs u ≡ true → among (nodes_at us bs) u ≡ among (nodes_at vs ws) u
picked_alike us vs places bs ws u moved is there still =
    let at = place_among us u there in
    let i = at.0 in
    let inside : i < length us = at.1 in
    let old = bit_is us i u bs moved.before inside at.2 in
    let stands = moved.stands i inside (ap (λ v. among vs v) at.2 ∙ still) in
    let new = bit_is vs (get_or places i 0) u ws moved.now stands.0 (stands.1 ∙ at.2) in
    one_apart (among (nodes_at us bs) u) (among (nodes_at vs ws) u) (sym old ∙ (is.within i (omega (arith, inside, moved.counted)) ∙ new))

pub compiled_again : (us vs places : List ℕ) (q : Slices) (old new : Compiled) → AreMoved us vs places → AreWithin (among (names q)) (among us) → AreWithin (among (names q)) (among vs) → IsMoved places old new → IsCompiled false us q old → IsCompiled false vs q new
compiled_again us vs places q old new moved named still is compiled ws =
    let b = before us vs places ws moved in
    is b.0 ws b.1 ∙ (compiled b.0 ∙ sat_local q (among (nodes_at us b.0)) (among (nodes_at vs ws)) (λ u h. picked_alike us vs places b.0 ws u moved b.1 (named u h) (still u h)))
