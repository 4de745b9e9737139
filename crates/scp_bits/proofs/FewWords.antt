-- Places in words, one word after another.
use Rattle.std.proofs.Common.{◌≡◌, ℕ, zero, suc, ◌+◌, ◌*◌, ◌/◌, ◌%◌, ◌^◌, ◌<◌, true, ◌&&◌, List, [], ◌∷◌, bit_and, bit_or, drop, get_or, length, set, arith, ap, sym, ◌∙◌}
use Rattle.std.specs.Int.{bit_at}
use Rattle.std.proofs.lemmas.Nat.{mod_below, one_shl}
use Rattle.scp_types.specs.Shape.{members_of}
use Rattle.scp_types.specs.Trees.{names_in}
use Rattle.scp_types.specs.declared.nested.Member.{Member}
use Rattle.scp_types.specs.declared.nested.Member.TheVariants.{Node, Set}
use Rattle.scp_spec.specs.Sets.{Names, within}
use Rattle.scp_bits.specs.Few.{masks_from}
use Rattle.scp_bits.specs.Places.{bit_of, ones_at, places_in}
use Rattle.scp_bits.proofs.Words.{none_common, one_more}

-- a word in the place of an empty one adds its places
pub word_more : (words : List ℕ) (k i b : ℕ) (ws : List ℕ) → i < length words → get_or words i 0 ≡ 0
    → places_in (masks_from k (set words i b)) ws ≡ places_in (masks_from k words) ws + ones_at (record { index = k + i; bits = b }) ws
word_more [] k i b ws h e = absurd (omega arith)
word_more (w ∷ words) k zero b ws h e =
    let at : k + 0 ≡ k = omega arith in
    omega (arith, none_common w (get_or ws k 0) e, ap (λ (j : ℕ). ones_at (record { index = j; bits = b }) ws) at)
word_more (w ∷ words) k (suc i) b ws h e =
    let at : suc k + i ≡ k + suc i = omega arith in
    omega (arith, word_more words (suc k) i b ws (omega arith) e, ap (λ (j : ℕ). ones_at (record { index = j; bits = b }) ws) at)

-- a bit that a word has not got adds its place
bit_more : (words : List ℕ) (k i j : ℕ) (ws : List ℕ) → i < length words → bit_and (get_or words i 0) (2 ^ j) ≡ 0
    → places_in (masks_from k (set words i (bit_or (get_or words i 0) (2 ^ j)))) ws ≡ places_in (masks_from k words) ws + bit_at (get_or ws (k + i) 0) j
bit_more [] k i j ws h free = absurd (omega arith)
bit_more (w ∷ words) k zero j ws h free =
    let at : k + 0 ≡ k = omega arith in
    omega (arith, one_more j w (get_or ws k 0) free, ap (λ n. bit_at (get_or ws n 0) j) at)
bit_more (w ∷ words) k (suc i) j ws h free =
    let at : suc k + i ≡ k + suc i = omega arith in
    omega (arith, bit_more words (suc k) i j ws (omega arith) free, ap (λ n. bit_at (get_or ws n 0) j) at)

pub place_more : (words now : List ℕ) (place : ℕ) → place / 64 < length words → bit_and (get_or words (place / 64) 0) ((1 * 2 ^ (place % 64)) % 2 ^ 64) ≡ 0
    → now ≡ set words (place / 64) (bit_or (get_or words (place / 64) 0) ((1 * 2 ^ (place % 64)) % 2 ^ 64))
    → (ws : List ℕ) → places_in (masks_from 0 now) ws ≡ places_in (masks_from 0 words) ws + bit_of ws place
place_more words now place within free is ws =
    let i = place / 64 in
    let k = place % 64 in
    let w = get_or words i 0 in
    let bit = one_shl k 64 (mod_below place 64 (omega arith)) in
    let at : 0 + i ≡ i = omega arith in
    ap (λ (xs : List ℕ). places_in (masks_from 0 xs) ws) (is ∙ ap (λ b. set words i (bit_or w b)) bit)
    ∙ (bit_more words 0 i k ws within (ap (bit_and w) (sym bit) ∙ free) ∙ ap (λ n. places_in (masks_from 0 words) ws + bit_at (get_or ws n 0) k) at)

-- a name that is in the set, and those after it
pub within_on : (ms : List Member) (i : ℕ) (m : Member) (u : ℕ) (s : Names) → i < length ms → m ≡ get_or ms i m → m ≡ Node u → s u ≡ true
    → within (names_in (members_of (drop i ms))) s ≡ within (names_in (members_of (drop (i + 1) ms))) s
within_on ms i m u s h is e there =
    let next : suc i ≡ i + 1 = omega arith in
    go ms i h (sym is ∙ e) ∙ ap (λ j. within (names_in (members_of (drop j ms))) s) next
  where
    go : (ms : List Member) (i : ℕ) → i < length ms → get_or ms i m ≡ Node u → within (names_in (members_of (drop i ms))) s ≡ within (names_in (members_of (drop (suc i) ms))) s
    go [] i h e = absurd (omega arith)
    go (Node v ∷ ms) zero h e =
        let same : v ≡ u = cc in
        ap (λ b. b && within (names_in (members_of ms)) s) (ap s same ∙ there)
    go (Set q ∷ ms) zero h e = absurd (cc)
    go (x ∷ ms) (suc i) h e = go ms i (omega arith) e
