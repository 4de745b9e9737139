-- Sets of places as words, and compiled sets.
use Rattle.std.specs.Prelude.{◌≡◌, ℕ, zero, suc, ◌+◌, ◌/◌, ◌%◌, ◌≤◌, List, [], ◌∷◌, get_or, length, refl, bit_and, count_ones}
use Rattle.std.specs.Coded.{Coded, code_by, coded×, coded_ℕ, coded_list}
use Rattle.std.specs.Int.{bit_at}
use Rattle.std.proofs.Common.{ap, ◌∙◌, arith}
use denote.Param.Weighed.{most}
use Rattle.scp_bits.specs.declared.mask.Mask.{Mask}

-- the bit of a place in a set of places
abbrev pub bit_of : List ℕ → ℕ → ℕ
bit_of ws i = bit_at (get_or ws (i / 64) 0) (i % 64)

-- how many of a mask's places are in the set
abbrev pub ones_at : Mask → List ℕ → ℕ
ones_at m ws = count_ones (bit_and m.bits (get_or ws m.index 0))

-- how many places of several masks are in a set
abbrev pub places_in : List Mask → List ℕ → ℕ
places_in [] ws = 0
places_in (m ∷ ms) ws = ones_at m ws + places_in ms ws

-- how many places some masks have
abbrev pub count_in : List Mask → ℕ
count_in [] = 0
count_in (m ∷ ms) = count_ones m.bits + count_in ms

-- a mask of this word that has not got the bit
abbrev pub is_free : ℕ → ℕ → Mask → Type 0
is_free index bit m = (m.index ≡ index) × (bit_and m.bits bit ≡ 0)

-- sets one after another: how much each needs, its places, and its inner sets
pub data Sets : Type 0 where
  none : Sets
  set : ℕ → List Mask → Sets → Sets → Sets

-- how many sets there are
abbrev pub count_sets : Sets → ℕ
count_sets none = 0
count_sets (set k ms own rest) = 1 + count_sets rest

-- a compiled set: how many of these places and inner sets are needed
pub record Compiled : Type 0 where
  pub needed : ℕ
  pub masks : List Mask
  pub inner : Sets

-- a compiled set and the number by which its owner tells it from others
pub record Numbered : Type 0 where
  pub number : ℕ
  pub set : Compiled

-- the compiled inner sets of a list in code, as the definitions have them
abbrev pub sets_of : List Compiled → Sets
sets_of [] = none
sets_of (c ∷ cs) = set c.needed c.masks c.inner (sets_of cs)

-- how many compiled sets and ends there are in all
abbrev pub weight_of_sets : Sets → ℕ
weight_of_sets none = 1
weight_of_sets (set k ms own rest) = 1 + weight_of_sets own + weight_of_sets rest

-- a law: each compiled set of a list weighs less inside than the list does, so a walk into sets ends
pub most_sets_le : (cs : List Compiled) → most (λ c. weight_of_sets c.inner + 1) cs ≤ weight_of_sets (sets_of cs)
most_sets_le [] = omega arith
most_sets_le (c ∷ cs) = omega (arith, most_sets_le cs)

-- ---- a code: the sets as a list of tokens, each a number and masks
abbrev pub mask_code : Coded Mask
mask_code =
    code_by (ℕ × ℕ) (coded× coded_ℕ coded_ℕ) (λ m. (m.index, m.bits)) (λ p. record { index = p.0; bits = p.1 }) (λ _. refl)

abbrev pub SetToken : Type 0
SetToken = ℕ × List Mask

abbrev pub set_tokens : Sets → List SetToken → List SetToken
set_tokens none after = (0, []) ∷ after
set_tokens (set k ms own rest) after = (suc k, ms) ∷ set_tokens own (set_tokens rest after)

-- the sets at the front, and the tokens after them
abbrev pub sets_at : ℕ → List SetToken → Sets × List SetToken
sets_at zero ts = (none, ts)
sets_at (suc fuel) [] = (none, [])
sets_at (suc fuel) ((zero, ms) ∷ ts) = (none, ts)
sets_at (suc fuel) ((suc k, ms) ∷ ts) =
    (set k ms (sets_at fuel ts).0 (sets_at fuel (sets_at fuel ts).1).0, (sets_at fuel (sets_at fuel ts).1).1)

length-tokens : (s : Sets) (after : List SetToken) → length (set_tokens s after) ≡ weight_of_sets s + length after
length-tokens none after = omega arith
length-tokens (set k ms own rest) after = omega (arith, length-tokens own (set_tokens rest after), length-tokens rest after)

sets-again : (s : Sets) (fuel : ℕ) (after : List SetToken) → weight_of_sets s ≤ fuel
    → sets_at fuel (set_tokens s after) ≡ (s, after)
sets-again none zero after h = absurd (omega arith)
sets-again none (suc fuel) after h = refl
sets-again (set k ms own rest) zero after h = absurd (omega arith)
sets-again (set k ms own rest) (suc fuel) after h =
    let e = sets-again own fuel (set_tokens rest after) (omega arith) in
    let f = sets-again rest fuel after (omega arith) in
    ap (λ (p : Sets × List SetToken). (set k ms p.0 (sets_at fuel p.1).0, (sets_at fuel p.1).1)) e ∙ ap (λ (p : Sets × List SetToken). (set k ms own p.0, p.1)) f

abbrev pub tokens_of_sets : Sets → List SetToken
tokens_of_sets s = set_tokens s []

abbrev pub sets_of_tokens : List SetToken → Sets
sets_of_tokens ts = (sets_at (length ts) ts).0

pub sets_from-tokens_of : (s : Sets) → sets_of_tokens (tokens_of_sets s) ≡ s
sets_from-tokens_of s =
    ap (λ (p : Sets × List SetToken). p.0) (sets-again s (length (tokens_of_sets s)) [] (omega (arith, length-tokens s [])))

abbrev pub sets_code : Coded Sets
sets_code =
    code_by (List SetToken) (coded_list (coded× coded_ℕ (coded_list mask_code))) tokens_of_sets sets_of_tokens sets_from-tokens_of

-- compiled sets are told apart by their parts, so it is decided whether two are equal
abbrev pub compiled_code : Coded Compiled
compiled_code =
    code_by (ℕ × (List Mask × Sets)) (coded× coded_ℕ (coded× (coded_list mask_code) sets_code)) (λ c. (c.needed, (c.masks, c.inner)))
    (λ p. record { needed = p.0; masks = p.1.0; inner = p.1.1 }) (λ _. refl)

-- numbered sets are told apart by their parts, so it is decided whether two are equal
abbrev pub numbered_code : Coded Numbered
numbered_code =
    code_by (ℕ × Compiled) (coded× coded_ℕ compiled_code) (λ f. (f.number, f.set)) (λ p. record { number = p.0; set = p.1 }) (λ _. refl)
