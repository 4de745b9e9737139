-- The tests of slices decide their rules.
use Rattle.std.proofs.Common.{◌≡◌, ◌≢◌, ℕ, zero, suc, ◌≤◌, ◌+◌, max, Bool, true, false, ◌&&◌, not, ◌==◌, leb, ltb, List, [], ◌∷◌, length, get_or, refl, ap, sym, ◌∙◌, eq-eqb, arith}
use Rattle.std.specs.Prelude.{AllPairs, All}
use Rattle.std.proofs.lemmas.List.Kept.{AllPairs-cons}
use Rattle.std.proofs.lemmas.List.Folds.{list_any_at, list_any_none}
use Rattle.std.specs.List.{AllByRecursion, list_any}
use Rattle.std.proofs.lemmas.Bool.{false≢true}
use Rattle.std.proofs.lemmas.Bool.Decides.{nat_tests}
use Rattle.scp_types.specs.Trees.{Members, none, node, inner, Slices, member_count, names_in, depth_of, most_members, most_levels, most_names, IsName, HasThreshold, HaveThresholds, IsNested, has_levels, has_threshold, is_shaped, all_differ}
use Rattle.scp_types.specs.Shape.{members_of}
use Rattle.scp_types.specs.declared.nested.Member.{Member}
use Rattle.scp_types.specs.declared.nested.Member.TheVariants.{Node, Set}
use Rattle.scp_types.proofs.Bools.{both, join, not_is}

pub member_count-members_of : (ms : List Member) → member_count (members_of ms) ≡ length ms
member_count-members_of [] = refl
member_count-members_of (Node u ∷ rest) = omega (arith, member_count-members_of rest)
member_count-members_of (Set s ∷ rest) = omega (arith, member_count-members_of rest)

pub counted : (k : ℕ) (ms : List Member) → has_threshold k (members_of ms) ≡ (ltb 0 k && (leb k (length ms) && leb (length ms) most_members))
counted k ms = rw (member_count-members_of ms) refl

threshold : (k : ℕ) (ms : Members) → has_threshold k ms ≡ true → HasThreshold k ms
threshold k ms h =
    let p = both (ltb 0 k) (leb k (member_count ms) && leb (member_count ms) most_members) h in
    let q = both (leb k (member_count ms)) (leb (member_count ms) most_members) p.1 in
    (grind (arith, nat_tests, p.0), grind (arith, nat_tests, q.0), grind (arith, nat_tests, q.1))

threshold_test : (k : ℕ) (ms : Members) → HasThreshold k ms → has_threshold k ms ≡ true
threshold_test k ms h =
    join (ltb 0 k) (leb k (member_count ms) && leb (member_count ms) most_members) (grind (arith, nat_tests, h.0)) (join (leb k (member_count ms)) (leb (member_count ms) most_members) (grind (arith, nat_tests, h.1)) (grind (arith, nat_tests, h.2)))

pub shaped : (levels : ℕ) (ms : Members) → is_shaped levels ms ≡ true → HaveThresholds ms × (depth_of ms ≤ levels)
shaped levels none h = (tt, omega arith)
shaped levels (node u rest) h = shaped levels rest h
shaped zero (inner k own rest) h = absurd (false≢true h)
shaped (suc levels) (inner k own rest) h =
    let p = both (has_threshold k own) (is_shaped levels own && is_shaped (suc levels) rest) h in
    let q = both (is_shaped levels own) (is_shaped (suc levels) rest) p.1 in
    let a = shaped levels own q.0 in
    let b = shaped (suc levels) rest q.1 in
    ((threshold k own p.0, a.0, b.0), omega (arith, a.1, b.1))

pub shaped_test : (levels : ℕ) (ms : Members) → HaveThresholds ms → depth_of ms ≤ levels → is_shaped levels ms ≡ true
shaped_test levels none h d = refl
shaped_test levels (node u rest) h d = shaped_test levels rest h d
shaped_test zero (inner k own rest) h d = absurd (omega arith)
shaped_test (suc levels) (inner k own rest) h d =
    join (has_threshold k own) (is_shaped levels own && is_shaped (suc levels) rest) (threshold_test k own h.0) (join (is_shaped levels own) (is_shaped (suc levels) rest) (shaped_test levels own h.1 (omega arith)) (shaped_test (suc levels) rest h.2 (omega arith)))

none_like : (u : ℕ) (us : List ℕ) → list_any (λ w. w == u) us ≡ false → All (λ w. u ≢ w) us
none_like u us h k d lt e = false≢true (sym h ∙ list_any_at (λ w. w == u) us k d lt (eq-eqb (get_or us k d) u (sym e)))

pub differing : (us : List ℕ) → all_differ us ≡ true → AllPairs (λ u w. u ≢ w) us
differing [] h = λ i j d lt bound e. omega arith
differing (u ∷ us) h =
    let p = both (not (list_any (λ w. w == u) us)) (all_differ us) h in
    AllPairs-cons (λ u w. u ≢ w) u us (none_like u us (not_is (list_any (λ w. w == u) us) p.0)) (differing us p.1)

other : (u w : ℕ) → u ≢ w → (w == u) ≡ false
other u w h = grind (arith, nat_tests)

pub differing_test : (us : List ℕ) → AllPairs (λ u w. u ≢ w) us → all_differ us ≡ true
differing_test [] h = refl
differing_test (u ∷ us) h =
    let none : list_any (λ w. w == u) us ≡ false = list_any_none (λ w. w == u) us (λ k d lt. other u (get_or us k d) (h 0 (suc k) d (omega arith) (omega arith))) in
    join (not (list_any (λ w. w == u) us)) (all_differ us) (ap not none) (differing_test us (λ i j d lt bound. h (suc i) (suc j) d (omega arith) (omega arith)))

pub nested_names : (q : Slices) → IsNested q → all_differ (names_in q.members) ≡ true
nested_names q h = differing_test (names_in q.members) h.names_differ

-- what the tests say of the shape, with the facts about names, is the rules
pub nested : (q : Slices) → (has_threshold q.threshold q.members && is_shaped most_levels q.members) ≡ true → length (names_in q.members) ≤ most_names → all_differ (names_in q.members) ≡ true → AllByRecursion IsName (names_in q.members) → IsNested q
nested q h few differ fit =
    let p = both (has_threshold q.threshold q.members) (is_shaped most_levels q.members) h in
    let s = shaped most_levels q.members p.1 in
    record { outer = threshold q.threshold q.members p.0; inner_sets = s.0; levels = s.1; few_names = few; names_differ = differing (names_in q.members) differ; names_fit = fit }

pub nested_shape : (q : Slices) → IsNested q → (has_threshold q.threshold q.members && is_shaped most_levels q.members) ≡ true
nested_shape q h =
    join (has_threshold q.threshold q.members) (is_shaped most_levels q.members) (threshold_test q.threshold q.members h.outer) (shaped_test most_levels q.members h.inner_sets h.levels)

-- ---- levels
-- the test of levels counts them
level_and : (a b n : ℕ) → (leb a n && leb b (suc n)) ≡ leb (max (1 + a) b) (suc n)
level_and a b n = same (leb a n && leb b (suc n)) (leb (max (1 + a) b) (suc n))
    (λ h. let p = both (leb a n) (leb b (suc n)) h in grind (arith, nat_tests, p.0, p.1))
    (λ h. join (leb a n) (leb b (suc n)) (grind (arith, nat_tests, h)) (grind (arith, nat_tests, h)))
  where
    same : (x y : Bool) → (x ≡ true → y ≡ true) → (y ≡ true → x ≡ true) → x ≡ y
    same true y f g = sym (f refl)
    same false true f g = g refl
    same false false f g = refl

pub levels_counted : (levels : ℕ) (ms : Members) → has_levels levels ms ≡ leb (depth_of ms) levels
levels_counted levels none = grind (arith, nat_tests)
levels_counted levels (node u rest) = levels_counted levels rest
levels_counted zero (inner k own rest) = grind (arith, nat_tests)
levels_counted (suc levels) (inner k own rest) = rw (levels_counted levels own, levels_counted (suc levels) rest) (level_and (depth_of own) (depth_of rest) levels)
