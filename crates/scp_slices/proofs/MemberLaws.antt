-- The members of a set in memory: how many there are, and which rules an inner set keeps.
use Rattle.std.proofs.Common.{◌≡◌, ℕ, zero, suc, ◌<◌, ◌≤◌, List, [], ◌∷◌, length, get_or, refl, sym, ◌∙◌, subst, arith}
use Rattle.scp_types.specs.Trees.{Slices, member_count, depth_of, HasThreshold, HaveThresholds}
use Rattle.scp_types.specs.Shape.{members_of}
use Rattle.scp_types.specs.declared.nested.Member.{Member}
use Rattle.scp_types.specs.declared.nested.Member.TheVariants.{Node, Set}

pub member_count_is : (ms : List Member) → member_count (members_of ms) ≡ length ms
member_count_is [] = refl
member_count_is (Node u ∷ rest) = omega (arith, member_count_is rest)
member_count_is (Set s ∷ rest) = omega (arith, member_count_is rest)

-- what is known of an inner set of a tree of so many levels
abbrev KeepsRules : ℕ → Member → Type 0
KeepsRules levels (Node u) = Unit {0}
KeepsRules levels (Set s) = HasThreshold s.threshold s.members × HaveThresholds s.members × (depth_of s.members < levels)

more_levels : (m n : ℕ) (member : Member) → m ≤ n → KeepsRules m member → KeepsRules n member
more_levels m n (Node u) h k = tt
more_levels m n (Set s) h k = (k.0, k.1, omega arith)

keeps_rules : (ms : List Member) (i : ℕ) (d : Member) → i < length ms → HaveThresholds (members_of ms) → KeepsRules (depth_of (members_of ms)) (get_or ms i d)
keeps_rules [] i d h r = absurd (omega arith)
keeps_rules (Node u ∷ rest) zero d h r = tt
keeps_rules (Set s ∷ rest) zero d h r = (r.0, r.1, omega arith)
keeps_rules (Node u ∷ rest) (suc i) d h r = keeps_rules rest i d (omega arith) r
keeps_rules (Set s ∷ rest) (suc i) d h r =
    more_levels (depth_of (members_of rest)) (depth_of (members_of (Set s ∷ rest))) (get_or rest i d) (omega arith) (keeps_rules rest i d (omega arith) r.2)

-- the rules of the inner set of index i
pub inner_keeps_rules : (ms : List Member) (i : ℕ) (m : Member) (s : Slices) → i < length ms → m ≡ get_or ms i m → m ≡ Set s → HaveThresholds (members_of ms)
    → HasThreshold s.threshold s.members × HaveThresholds s.members × (depth_of s.members < depth_of (members_of ms))
inner_keeps_rules ms i m s h e f r = subst (KeepsRules (depth_of (members_of ms))) (sym e ∙ f) (keeps_rules ms i m h r)
