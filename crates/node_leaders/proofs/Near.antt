-- The neighbours are the nodes that are near by their weight, and the node is one itself.
use Rattle.std.proofs.Common.{◌≡◌, ℕ, ◌*◌, ◌^◌, ◌<◌, Bool, true, false, ◌==◌, ◌&&◌, nat_lt, List, filter, Some, None, if◌then◌else◌, refl, sym, ◌∙◌, ap, inl, inr, arith}
use Rattle.std.proofs.lemmas.Bool.{cases_Bool, or_cases, or_left, or_right, and_parts, eqb-true}
use Rattle.std.proofs.lemmas.Bool.Decides.{nat_tests}
use Rattle.std.proofs.lemmas.Map.Views.{any-filter_same}
use Rattle.scp_types.specs.Trees.{Slices}
use Rattle.scp_spec.specs.Sets.{Names, also, among}
use Rattle.scp_spec.specs.Satisfaction.{names}
use Rattle.scp_spec.specs.Weights.{Fraction, share, sets_around, weight}
use Rattle.scp_spec.specs.Leaders.{hash, is_near, neighbours}
use Rattle.scp_spec.proofs.Sets.Finite.{among_head}
use Rattle.scp_slices.specs.Weighing.{whole}
use Rattle.node_leaders.specs.Leaders.{NeighboursAreNear}
use Rattle.node_leaders.proofs.HashLaws.{hash_below}

-- whoever weighs all is near
whole_is_near : (slot round u : ℕ) → is_near (Some whole) (hash slot 1 round u) ≡ true
whole_is_near slot round u = below (hash slot 1 round u) (hash_below slot 1 round u)
  where
    below : (h : ℕ) → h < 2 ^ 64 → nat_lt (h * 1) (1 * 2 ^ 64) ≡ true
    below h l = grind (arith, nat_tests)

kept_where : (p : Names) (us : List ℕ) (u : ℕ) → among (filter p us) u ≡ (p u && among us u)
kept_where p us u = any-filter_same (λ w. w == u) p (p u) (λ w e. ap p (eqb-true w u e)) us

turned : (u v : ℕ) → (u == v) ≡ (v == u)
turned u v = grind (arith, nat_tests)

-- where there is no weight, nothing is near
near_where : (m : Bool) (f : Fraction) (h : ℕ) → (is_near (if m then Some f else None) h && m) ≡ is_near (if m then Some f else None) h
near_where false f h = refl
near_where true f h = anyway (nat_lt (h * f.denominator) (f.numerator * 2 ^ 64))
  where
    anyway : (b : Bool) → (b && true) ≡ b
    anyway true = refl
    anyway false = refl

pub near : NeighboursAreNear
unfolding neighbours
near slot round v q u = elim (cases_Bool (u == v)) [
  | inl e ↦ rw (turned v u, e) (sym (whole_is_near slot round u))
  | inr e ↦ rw (turned v u, e) (kept_where (λ w. is_near (weight q w) (hash slot 1 round w)) (names q) u ∙ near_where (among (names q) u) (share (sets_around q u)) (hash slot 1 round u))
]

-- a node is a neighbour of its own
pub own_neighbour : (slot round v : ℕ) (q : Slices) → among (neighbours slot round v q) v ≡ true
unfolding neighbours
own_neighbour slot round v q = among_head v (filter (λ u. is_near (weight q u) (hash slot 1 round u)) (names q))

-- a neighbour is the node or a name of its slices
pub near_names : (slot round v : ℕ) (q : Slices) (u : ℕ) → among (neighbours slot round v q) u ≡ true → also v (among (names q)) u ≡ true
unfolding neighbours
near_names slot round v q u h = elim (or_cases (v == u) _ h) [
  | inl e ↦ or_left (v == u) (among (names q) u) e
  | inr e ↦ or_right (v == u) (among (names q) u) (and_parts _ (among (names q) u) (sym (kept_where (λ w. is_near (weight q w) (hash slot 1 round w)) (names q) u) ∙ e)).1
]
