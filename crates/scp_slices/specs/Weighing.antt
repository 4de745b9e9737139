-- The weight of a name, found by walking down the tree.
use Rattle.std.specs.Prelude.{ℕ, ◌*◌, ◌==◌, Option, Some, None, option_map, if◌then◌else◌}
use Rattle.std.specs.Option.{option_or}
use Rattle.scp_types.specs.Trees.{Members, none, node, inner, Slices, member_count}
use Rattle.scp_spec.specs.Weights.{Fraction}

-- the weight 1/1: all of it
abbrev pub whole : Fraction
whole = record { numerator = 1; denominator = 1 }

-- k of n parts of a fraction
abbrev pub part_of : ℕ → ℕ → Fraction → Fraction
part_of k n f = record { numerator = k * f.numerator; denominator = n * f.denominator }

-- what the first member that has the name gives
abbrev pub share_in : Members → ℕ → Option Fraction
share_in none u = None
share_in (node w rest) u = if w == u then Some whole else share_in rest u
share_in (inner k own rest) u = option_or (option_map (part_of k (member_count own)) (share_in own u)) (share_in rest u)

-- the share of a name in a set: the product of its threshold's part and that of the inner set
abbrev pub share_of : Slices → ℕ → Option Fraction
share_of q u = option_map (part_of q.threshold (member_count q.members)) (share_in q.members u)
