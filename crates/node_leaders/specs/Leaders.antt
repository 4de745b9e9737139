-- What the leader is among the neighbours, and laws of both.
use Rattle.std.specs.Prelude.{◌≡◌, ℕ, ◌==◌, Option, Some, if◌then◌else◌, IsTrue, IsFalse}
use Rattle.scp_types.specs.Trees.{Slices}
use Rattle.scp_spec.specs.Sets.{also, among}
use Rattle.scp_spec.specs.Satisfaction.{names}
use Rattle.scp_spec.specs.Weights.{Fraction, weight}
use Rattle.scp_spec.specs.Leaders.{hash, is_near, neighbours, beats}
use Rattle.scp_slices.specs.Weighing.{whole}

-- the leader of a round: the neighbour that no neighbour beats
pub record IsLeader (slot round v : ℕ) (q : Slices) (u : ℕ) : Type 0 where
  pub neighbour : IsTrue (among (neighbours slot round v q) u)
  pub unbeaten : (w : ℕ) → IsTrue (among (neighbours slot round v q) w) → IsFalse (beats slot round w u)

-- how much u weighs for v: all for v itself, else what it weighs in v's slices
abbrev pub weight_for : (v : ℕ) → Slices → (u : ℕ) → Option Fraction
weight_for v q u = if u == v then Some whole else weight q u

-- ---- laws
-- the neighbours are the nodes that are near by what they weigh for the node, which weighs all for itself
abbrev pub NeighboursAreNear : Type 0
NeighboursAreNear =
    (slot round v : ℕ) (q : Slices) (u : ℕ)
    → among (neighbours slot round v q) u ≡ is_near (weight_for v q u) (hash slot 1 round u)

-- there is one leader at most
abbrev pub LeadersAreUnique : Type 0
LeadersAreUnique =
    (slot round v : ℕ) (q : Slices) (u w : ℕ) → IsLeader slot round v q u → IsLeader slot round v q w → u ≡ w

-- the leader is the node itself or one of the names of its slices
abbrev pub LeadersAreKnown : Type 0
LeadersAreKnown =
    (slot round v : ℕ) (q : Slices) (u : ℕ) → IsLeader slot round v q u → IsTrue (also v (among (names q)) u)
