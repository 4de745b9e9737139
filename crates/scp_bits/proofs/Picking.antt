-- The nodes at places.
use Rattle.std.proofs.Common.{◌≡◌, ℕ, zero, suc, ◌+◌, ◌<◌, Bool, true, false, cond, ◌==◌, ◌||◌, List, [], ◌∷◌, get_or, length, refl, sym, ◌∙◌, ap, arith}
use Rattle.std.proofs.lemmas.Bool.{both_ways, eq-eqb, ne_eqb}
use Rattle.std.proofs.lemmas.List.Folds.{list_any_at}
use Rattle.std.proofs.lemmas.Nat.{mod_below}
use Rattle.scp_spec.specs.Sets.{among, IsAscending}
use Rattle.scp_bits.specs.Places.{bit_of}
use Rattle.scp_bits.specs.Met.{one_where, nodes_at_from, nodes_at}

-- each element is below each later one
abbrev Rises : List ℕ → Type 0
Rises us = (a b : ℕ) → a < b → b < length us → get_or us a 0 < get_or us b 0

skips : (v : Bool) (u x : ℕ) (us : List ℕ) → (u == x) ≡ false → among (cond v (u ∷ us) us) x ≡ among us x
skips true u x us e = ap (λ b. b || among us x) e
skips false u x us e = refl

-- a node that is not listed is not picked
pub never_picked : (us : List ℕ) (j x : ℕ) (ws : List ℕ) → ((k : ℕ) → k < length us → get_or us k 0 ≡ x → ⊥) → among (nodes_at_from j us ws) x ≡ false
never_picked [] j x ws h = refl
never_picked (u ∷ us) j x ws h =
    skips (bit_of ws j == 1) u x (nodes_at_from (suc j) us ws) (ne_eqb u x (h 0 (omega arith)))
    ∙ never_picked us (suc j) x ws (λ k l. h (suc k) (omega arith))

takes : (v : Bool) (u : ℕ) (us : List ℕ) → among us u ≡ false → among (cond v (u ∷ us) us) u ≡ v
takes true u us e = ap (λ b. b || among us u) (eq-eqb u u refl)
takes false u us e = e

pub picked_at : (us : List ℕ) (j i : ℕ) (ws : List ℕ) → Rises us → i < length us → among (nodes_at_from j us ws) (get_or us i 0) ≡ (bit_of ws (j + i) == 1)
picked_at [] j i ws up within = absurd (omega arith)
picked_at (u ∷ us) j zero ws up within =
    let e : j ≡ j + 0 = omega arith in
    takes (bit_of ws j == 1) u (nodes_at_from (suc j) us ws) (never_picked us (suc j) u ws (λ k l is. let low = up 0 (suc k) (omega arith) (omega arith) in absurd (omega (arith, low, is))))
    ∙ ap (λ n. bit_of ws n == 1) e
picked_at (u ∷ us) j (suc i) ws up within =
    let e : suc j + i ≡ j + suc i = omega arith in
    skips (bit_of ws j == 1) u (get_or us i 0) (nodes_at_from (suc j) us ws) (ne_eqb u (get_or us i 0) (λ is. let low = up 0 (suc i) (omega arith) within in absurd (omega (arith, low, is))))
    ∙ (picked_at us (suc j) i ws (λ a b l h. up (suc a) (suc b) (omega arith) (omega arith)) (omega arith)
    ∙ ap (λ n. bit_of ws n == 1) e)

one_of : (d : ℕ) → d < 2 → one_where (d == 1) ≡ d
one_of zero h = refl
one_of (suc zero) h = refl
one_of (suc (suc d)) h = absurd (omega arith)

-- the node at a place is picked where the place has its bit
pub bit_is : (us : List ℕ) (i x : ℕ) (ws : List ℕ) → IsAscending us → i < length us → get_or us i 0 ≡ x → bit_of ws i ≡ one_where (among (nodes_at us ws) x)
bit_is us i x ws up within is =
    let at = picked_at us 0 i ws (λ a b l h. up a b 0 l h) within in
    let here : bit_of ws (0 + i) ≡ bit_of ws i = ap (bit_of ws) (omega arith) in
    sym (ap one_where (ap (λ y. among (nodes_at us ws) y) (sym is) ∙ at) ∙ (one_of (bit_of ws (0 + i)) (mod_below _ 2 (omega arith)) ∙ here))

-- a node without a place is not picked
pub none_is : (us : List ℕ) (x : ℕ) (ws : List ℕ) → among us x ≡ false → one_where (among (nodes_at us ws) x) ≡ 0
none_is us x ws h = ap one_where (never_picked us 0 x ws (λ k l is. both_ways (among us x) h (list_any_at (λ y. y == x) us k 0 l (eq-eqb (get_or us k 0) x is))))
