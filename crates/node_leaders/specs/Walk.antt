-- The leader as a walk down the tree finds it: each name with its weight, and the best so far.
use Rattle.std.specs.Prelude.{ℕ, ◌*◌, ◌^◌, ◌≤◌, Bool, Some, if◌then◌else◌}
use Rattle.scp_types.specs.Trees.{Members, none, node, inner, member_count, most_members, most_levels}
use Rattle.scp_spec.specs.Weights.{Fraction}
use Rattle.scp_spec.specs.Leaders.{hash, is_near}
use Rattle.scp_slices.specs.Weighing.{part_of}

-- the better of a name, if it is drawn, and the best so far
abbrev pub better : (ℕ → Fraction → Bool) → (ℕ → ℕ → Bool) → ℕ → Fraction → ℕ → ℕ
better drawn beats u f best = if drawn u f then (if beats u best then u else best) else best

-- the best of the names of a set, each with the weight of its own set, and of the best so far
abbrev pub best_among : (ℕ → Fraction → Bool) → (ℕ → ℕ → Bool) → Fraction → Members → ℕ → ℕ
best_among drawn beats f none best = best
best_among drawn beats f (node u rest) best = best_among drawn beats f rest (better drawn beats u f best)
best_among drawn beats f (inner k own rest) best =
    best_among drawn beats f rest (best_among drawn beats (part_of k (member_count own) f) own best)

-- a name of this weight is drawn in a round
abbrev pub is_drawn : (slot round : ℕ) → ℕ → Fraction → Bool
is_drawn slot round u f = is_near (Some f) (hash slot 1 round u)

-- a weight can be multiplied once for each level that is left
pub record HasRoomForLevels (f : Fraction) (levels : ℕ) : Type 0 where
  pub numerator : f.numerator * most_members ^ levels ≤ most_members ^ most_levels
  pub denominator : f.denominator * most_members ^ levels ≤ most_members ^ most_levels
