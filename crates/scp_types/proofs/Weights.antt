-- An inner set weighs less than the set that holds it.
use Rattle.std.proofs.Common.{◌≡◌, ℕ, zero, suc, ◌+◌, ◌<◌, List, [], ◌∷◌, length, get_or, sym, ap, ◌∙◌, arith}
use Rattle.scp_types.specs.Trees.{Members, none, node, inner, Slices, weight_of}
use Rattle.scp_types.specs.Shape.{members_of}
use Rattle.scp_types.specs.declared.nested.Member.{Member}
use Rattle.scp_types.specs.declared.nested.Member.TheVariants.{Node, Set}

abbrev weight_of_member : Member → ℕ
weight_of_member (Node u) = 1
weight_of_member (Set s) = 1 + weight_of s.members

weighs_something : (m : Members) → 0 < weight_of m
weighs_something none = omega arith
weighs_something (node u rest) = omega arith
weighs_something (inner k own rest) = omega arith

member_weighs : (ms : List Member) (i : ℕ) (d : Member) → i < length ms → weight_of_member (get_or ms i d) < weight_of (members_of ms)
member_weighs [] i d h = absurd (omega arith)
member_weighs (Node u ∷ rest) zero d h = omega (arith, weighs_something (members_of rest))
member_weighs (Set s ∷ rest) zero d h = omega (arith, weighs_something (members_of rest))
member_weighs (Node u ∷ rest) (suc i) d h = omega (arith, member_weighs rest i d (omega arith))
member_weighs (Set s ∷ rest) (suc i) d h = omega (arith, member_weighs rest i d (omega arith))

pub inner_weighs_less : (ms : List Member) (i : ℕ) (m : Member) (s : Slices) → i < length ms → m ≡ get_or ms i m → m ≡ Set s → weight_of s.members < weight_of (members_of ms)
inner_weighs_less ms i m s h e f =
    let w = member_weighs ms i m h in
    let g : weight_of_member (get_or ms i m) ≡ 1 + weight_of s.members = ap weight_of_member (sym e) ∙ ap weight_of_member f in
    omega (arith, w)
