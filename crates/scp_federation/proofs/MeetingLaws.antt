-- Members that meet a set: that satisfy it or, where that is asked, block it.
use Rattle.std.proofs.Common.{◌≡◌, ℕ, zero, suc, ◌+◌, ◌-◌, ◌<◌, ◌≤◌, Bool, true, false, cond, leb, ltb, List, [], ◌∷◌, length, get_or, drop, map, refl, sym, ap, ◌∙◌, arith}
use Rattle.std.proofs.lemmas.List.{drop_all, length-map}
use Rattle.std.proofs.lemmas.Bool.Decides.{nat_tests}
use Rattle.scp_types.specs.Trees.{Members, none, node, inner, Slices, member_count}
use Rattle.scp_types.specs.Shape.{members_of}
use Rattle.scp_spec.specs.Sets.{Names}
use Rattle.scp_spec.specs.Satisfaction.{satisfied_count, blocked_count, sat, is_blocked}
use Rattle.scp_federation.specs.declared.flat_set.FlatMember.{FlatMember}
use Rattle.scp_federation.specs.declared.flat_set.FlatMember.TheVariants.{Name, Inner}
use Rattle.scp_federation.specs.Numbers.{member_by, set_by}
use Rattle.scp_slices.proofs.MemberLaws.{member_count_is}

-- how many have to meet it
abbrev pub needed : Bool → ℕ → ℕ → ℕ
needed b k n = cond b (n + 1 - k) k

-- how many do
abbrev pub met_count : Bool → Members → Names → ℕ
met_count b none s = 0
met_count b (node u rest) s = cond (s u) 1 0 + met_count b rest s
met_count b (inner k own rest) s = cond (leb (needed b k (member_count own)) (met_count b own s)) 1 0 + met_count b rest s

spare : (k n m : ℕ) → leb (n + 1 - k) m ≡ ltb n (k + m)
spare k n m = grind (arith, nat_tests)

satisfied_is : (ms : Members) (s : Names) → met_count false ms s ≡ satisfied_count ms s
satisfied_is none s = refl
satisfied_is (node u rest) s = ap (λ x. cond (s u) 1 0 + x) (satisfied_is rest s)
satisfied_is (inner k own rest) s = λ i. cond (leb k (satisfied_is own s i)) 1 0 + satisfied_is rest s i

blocked_is : (ms : Members) (s : Names) → met_count true ms s ≡ blocked_count ms s
blocked_is none s = refl
blocked_is (node u rest) s = ap (λ x. cond (s u) 1 0 + x) (blocked_is rest s)
blocked_is (inner k own rest) s =
    let e = ap (leb (member_count own + 1 - k)) (blocked_is own s) ∙ spare k (member_count own) (blocked_count own s) in
    λ i. cond (e i) 1 0 + blocked_is rest s i

-- enough of them meet it exactly where it is met
pub met_is : (b : Bool) (q : Slices) (s : Names) → leb (needed b q.threshold (member_count q.members)) (met_count b q.members s) ≡ cond b (is_blocked q s) (sat q s)
met_is true q s = ap (leb (member_count q.members + 1 - q.threshold)) (blocked_is q.members s) ∙ spare q.threshold (member_count q.members) (blocked_count q.members s)
met_is false q s = ap (leb q.threshold) (satisfied_is q.members s)

-- ---- members by number
abbrev pub member_is_met : Bool → List ℕ → (ℕ → Slices) → FlatMember → Names → Bool
member_is_met b us sets (Name i) s = s (get_or us i 0)
member_is_met b us sets (Inner n) s = cond b (is_blocked (sets n) s) (sat (sets n) s)

on : (b : Bool) (us : List ℕ) (sets : ℕ → Slices) (ms : List FlatMember) (i : ℕ) (d : FlatMember) (s : Names) → i < length ms
    → met_count b (members_of (map (member_by us sets) (drop i ms))) s
    ≡ cond (member_is_met b us sets (get_or ms i d) s) 1 0 + met_count b (members_of (map (member_by us sets) (drop (suc i) ms))) s
on b us sets [] i d s h = absurd (omega arith)
on b us sets (Name n ∷ ms) zero d s h = refl
on b us sets (Inner n ∷ ms) zero d s h = ap (λ x. cond x 1 0 + met_count b (members_of (map (member_by us sets) ms)) s) (met_is b (sets n) s)
on b us sets (Name n ∷ ms) (suc i) d s h = on b us sets ms i d s (omega arith)
on b us sets (Inner n ∷ ms) (suc i) d s h = on b us sets ms i d s (omega arith)

-- one member more, that is met or not
pub one_more : (b : Bool) (us : List ℕ) (sets : ℕ → Slices) (ms : List FlatMember) (i : ℕ) (m : FlatMember) (s : Names) (met : Bool) → i < length ms
    → met ≡ member_is_met b us sets (get_or ms i m) s
    → met_count b (members_of (map (member_by us sets) (drop i ms))) s ≡ cond met 1 0 + met_count b (members_of (map (member_by us sets) (drop (i + 1) ms))) s
one_more b us sets ms i m s met h is =
    let next : suc i ≡ i + 1 = omega arith in
    on b us sets ms i m s h ∙ (λ j. cond (sym is j) 1 0 + met_count b (members_of (map (member_by us sets) (drop (next j) ms))) s)

-- all of them were asked
pub all_asked : (b : Bool) (us : List ℕ) (sets : ℕ → Slices) (k : ℕ) (ms : List FlatMember) (q : Slices) (i count : ℕ) (s : Names) → length ms ≤ i
    → q ≡ set_by us sets (record { threshold = k; members = ms })
    → count + met_count b (members_of (map (member_by us sets) (drop i ms))) s ≡ met_count b (members_of (map (member_by us sets) ms)) s
    → leb (needed b k (length ms)) count ≡ cond b (is_blocked q s) (sat q s)
all_asked b us sets k ms q i count s h is e =
    let own = map (member_by us sets) ms in
    let none_left : drop i ms ≡ [] = drop_all i ms h in
    let count_is : count ≡ met_count b (members_of own) s = omega (arith, e, ap (λ (left : List FlatMember). met_count b (members_of (map (member_by us sets) left)) s) none_left) in
    let counted : length ms ≡ member_count (members_of own) = sym (member_count_is own ∙ length-map ms (member_by us sets)) in
    (λ j. leb (needed b k (counted j)) (count_is j)) ∙ (met_is b (record { threshold = k; members = members_of own }) s ∙ ap (λ (x : Slices). cond b (is_blocked x s) (sat x s)) (sym is))
