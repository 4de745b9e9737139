-- Worked examples, computed: slices 2[B,1[C,D],2[E,F]], and three nodes in a ring.
use Rattle.std.proofs.Common.{◌≡◌, ℕ, true, false, ◌==◌, if◌then◌else◌, [], ◌∷◌, Option, Some, None, refl}
use Rattle.scp_types.specs.Trees.{Slices, none, node, inner}
use Rattle.scp_spec.proofs.Worked.Letters.{A, B, C, D, E, F, just}
use Rattle.scp_spec.specs.Sets.{some_set, among}
use Rattle.scp_spec.specs.Satisfaction.{sat, is_blocked}
use Rattle.scp_spec.specs.Quorums.{has_quorum}
use Rattle.scp_spec.specs.Weights.{weight}

-- 2[B,1[C,D],2[E,F]]
abbrev nested : Slices
nested =
    record { threshold = 2; members = node B (inner 1 (node C (node D none)) (inner 2 (node E (node F none)) none)) }

pub satisfied_by_c_e_f : sat nested (among (C ∷ E ∷ F ∷ [])) ≡ true
satisfied_by_c_e_f = refl

pub b_does_not_block : is_blocked nested (among (B ∷ [])) ≡ false
b_does_not_block = refl

pub b_c_d_block : is_blocked nested (among (B ∷ C ∷ D ∷ [])) ≡ true
b_c_d_block = refl

pub b_e_block : is_blocked nested (among (B ∷ E ∷ [])) ≡ true
b_e_block = refl

pub weight_of_b : weight nested B ≡ Some (record { numerator = 2; denominator = 3 })
weight_of_b = refl

pub weight_of_d : weight nested D ≡ Some (record { numerator = 2; denominator = 6 })
weight_of_d = refl

pub weight_of_f : weight nested F ≡ Some (record { numerator = 4; denominator = 6 })
weight_of_f = refl

pub weight_of_a_stranger : weight nested A ≡ None
weight_of_a_stranger = refl

-- A has 1[B], B has 1[C], C has 1[A]
abbrev ring : ℕ → Option Slices
ring u = if u == A then Some (just B) else if u == B then Some (just C) else if u == C then Some (just A) else None

-- the same without what C has
abbrev broken_ring : ℕ → Option Slices
broken_ring u = if u == A then Some (just B) else if u == B then Some (just C) else None

pub ring_is_a_quorum : has_quorum sat ring (A ∷ B ∷ C ∷ []) (among (A ∷ B ∷ C ∷ [])) A ≡ true
unfolding some_set has_quorum
ring_is_a_quorum = refl

pub broken_ring_has_none : has_quorum sat broken_ring (A ∷ B ∷ C ∷ []) (among (A ∷ B ∷ C ∷ [])) A ≡ false
unfolding some_set has_quorum
broken_ring_has_none = refl
