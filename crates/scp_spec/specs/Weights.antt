-- The weight of a name in slices: a product of fractions, kept as a pair of whole numbers.
use Rattle.std.specs.Prelude.{ℕ, ◌*◌, List, [], ◌∷◌, ◌++◌, Option, Some, None, if◌then◌else◌, filter, map}
use Rattle.scp_types.specs.Trees.{Members, none, node, inner, Slices, member_count}
use Rattle.scp_spec.specs.Sets.{among}
use Rattle.scp_spec.specs.Satisfaction.{names}

-- the product of the numbers
abbrev pub product : List ℕ → ℕ
product [] = 1
product (n ∷ ns) = n * product ns

-- the inner sets of a tree, each before those inside it
abbrev pub inner_sets : Members → List Slices
inner_sets none = []
inner_sets (node u rest) = inner_sets rest
inner_sets (inner k own rest) = record { threshold = k; members = own } ∷ inner_sets own ++ inner_sets rest

-- the sets of a tree that contain the name, from the outermost down
abbrev pub sets_around : Slices → ℕ → List Slices
sets_around q u = filter (λ s. among (names s) u) (q ∷ inner_sets q.members)

-- a fraction, not shortened
pub record Fraction : Type 0 where
  pub numerator : ℕ
  pub denominator : ℕ

-- the product of k/n over the sets that contain the name
abbrev pub share : List Slices → Fraction
share sets =
    record {
      numerator = product (map (λ s. s.threshold) sets);
      denominator = product (map (λ s. member_count s.members) sets);
    }

-- the weight of a name in slices: its share, the product of threshold by count, if the tree has it; else none
abbrev pub weight : Slices → ℕ → Option Fraction
weight q u = if among (names q) u then Some (share (sets_around q u)) else None
