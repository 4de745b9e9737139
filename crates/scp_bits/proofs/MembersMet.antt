-- Members one by one, and the compiled form of those before.
use Rattle.std.proofs.Common.{◌≡◌, ℕ, zero, suc, ◌+◌, ◌-◌, ◌<◌, ◌≤◌, Bool, true, false, cond, leb, ltb, List, [], ◌∷◌, ◌++◌, drop, get_or, length, refl, sym, ◌∙◌, ap, arith}
use Rattle.std.specs.Prelude.{nat_le}
use Rattle.std.proofs.lemmas.Bool.Decides.{nat_tests}
use Rattle.scp_types.specs.Trees.{Members, none, node, inner, Slices, member_count}
use Rattle.scp_types.specs.Shape.{members_of}
use Rattle.scp_types.specs.declared.nested.Member.{Member}
use Rattle.scp_types.specs.declared.nested.Member.TheVariants.{Node, Set}
use Rattle.scp_spec.specs.Sets.{Names}
use Rattle.scp_spec.specs.Satisfaction.{satisfied_count, blocked_count}
use Rattle.scp_slices.proofs.MemberLaws.{member_count_is}
use Rattle.scp_bits.specs.Places.{Compiled, sets_of, places_in}
use Rattle.scp_bits.specs.Met.{has_needed, sets_met, meets, needed_of, one_where}

-- how many members meet
abbrev pub members_met : Bool → Members → Names → ℕ
members_met b none s = 0
members_met b (node u rest) s = one_where (s u) + members_met b rest s
members_met b (inner k own rest) s = one_where (nat_le (needed_of b k (member_count own)) (members_met b own s)) + members_met b rest s

spare : (k n m : ℕ) → leb (n + 1 - k) m ≡ ltb n (k + m)
spare k n m = grind (arith, nat_tests)

satisfied_is : (ms : Members) (s : Names) → members_met false ms s ≡ satisfied_count ms s
satisfied_is none s = refl
satisfied_is (node u rest) s = ap (λ x. cond (s u) 1 0 + x) (satisfied_is rest s)
satisfied_is (inner k own rest) s = λ i. cond (leb k (satisfied_is own s i)) 1 0 + satisfied_is rest s i

blocked_is : (ms : Members) (s : Names) → members_met true ms s ≡ blocked_count ms s
blocked_is none s = refl
blocked_is (node u rest) s = ap (λ x. cond (s u) 1 0 + x) (blocked_is rest s)
blocked_is (inner k own rest) s =
    let e = ap (leb (member_count own + 1 - k)) (blocked_is own s) ∙ spare k (member_count own) (blocked_count own s) in
    λ i. cond (e i) 1 0 + blocked_is rest s i

-- and whether they are enough
pub meets_is : (b : Bool) (q : Slices) (s : Names) → nat_le (needed_of b q.threshold (member_count q.members)) (members_met b q.members s) ≡ meets b q s
meets_is true q s = ap (leb (member_count q.members + 1 - q.threshold)) (blocked_is q.members s) ∙ spare q.threshold (member_count q.members) (blocked_count q.members s)
meets_is false q s = ap (leb q.threshold) (satisfied_is q.members s)

abbrev member_meets : Bool → Member → Names → Bool
member_meets b (Node u) s = s u
member_meets b (Set q) s = meets b q s

-- the member at an index, and those after it
on : (b : Bool) (ms : List Member) (i : ℕ) (d : Member) (s : Names) → i < length ms
    → members_met b (members_of (drop i ms)) s ≡ one_where (member_meets b (get_or ms i d) s) + members_met b (members_of (drop (suc i) ms)) s
on b [] i d s h = absurd (omega arith)
on b (Node u ∷ ms) zero d s h = refl
on b (Set q ∷ ms) zero d s h = ap (λ x. one_where x + members_met b (members_of ms) s) (meets_is b q s)
on b (Node u ∷ ms) (suc i) d s h = on b ms i d s (omega arith)
on b (Set q ∷ ms) (suc i) d s h = on b ms i d s (omega arith)

pub node_on : (b : Bool) (ms : List Member) (i : ℕ) (m : Member) (u : ℕ) (s : Names) → i < length ms → m ≡ get_or ms i m → m ≡ Node u
    → members_met b (members_of (drop i ms)) s ≡ one_where (s u) + members_met b (members_of (drop (i + 1) ms)) s
node_on b ms i m u s h is e =
    let next : suc i ≡ i + 1 = omega arith in
    on b ms i m s h ∙ (λ j. one_where (member_meets b ((sym is ∙ e) j) s) + members_met b (members_of (drop (next j) ms)) s)

pub set_on : (b : Bool) (ms : List Member) (i : ℕ) (m : Member) (q : Slices) (s : Names) → i < length ms → m ≡ get_or ms i m → m ≡ Set q
    → members_met b (members_of (drop i ms)) s ≡ one_where (meets b q s) + members_met b (members_of (drop (i + 1) ms)) s
set_on b ms i m q s h is e =
    let next : suc i ≡ i + 1 = omega arith in
    on b ms i m s h ∙ (λ j. one_where (member_meets b ((sym is ∙ e) j) s) + members_met b (members_of (drop (next j) ms)) s)

-- one compiled set more
pub one_set_more : (cs : List Compiled) (c : Compiled) (ws : List ℕ) → sets_met (sets_of (cs ++ c ∷ [])) ws ≡ sets_met (sets_of cs) ws + one_where (has_needed c ws)
one_set_more [] c ws = omega arith
one_set_more (d ∷ cs) c ws = omega (arith, one_set_more cs c ws)

-- ---- the compiled form, member by member
none_after : (b : Bool) (ms : List Member) (i : ℕ) (s : Names) → length ms ≤ i → members_met b (members_of (drop i ms)) s ≡ 0
none_after b [] zero s h = refl
none_after b [] (suc i) s h = refl
none_after b (m ∷ ms) zero s h = absurd (omega arith)
none_after b (m ∷ ms) (suc i) s h = none_after b ms i s (omega arith)

-- all members were looked at
pub all_met : (b : Bool) (ms : List Member) (i : ℕ) (q : Slices) (s : Names) (c : Compiled) (ws : List ℕ) → length ms ≤ i → members_of ms ≡ q.members
    → c.needed ≡ needed_of b q.threshold (length ms)
    → places_in c.masks ws + sets_met c.inner ws + members_met b (members_of (drop i ms)) s ≡ members_met b q.members s
    → has_needed c ws ≡ meets b q s
all_met b ms i q s c ws end shape needed so_far =
    let count : length ms ≡ member_count q.members = sym (member_count_is ms) ∙ ap member_count shape in
    let total : places_in c.masks ws + sets_met c.inner ws ≡ members_met b q.members s = omega (arith, none_after b ms i s end, so_far) in
    (λ j. leb ((needed ∙ ap (needed_of b q.threshold) count) j) (total j)) ∙ meets_is b q s
