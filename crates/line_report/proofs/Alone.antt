-- Who blocks slices by itself is named in them.
use Rattle.std.proofs.Common.{◌≡◌, ℕ, ◌+◌, ◌≤◌, ◌==◌, ◌||◌, Bool, true, false, ltb, List, [], ◌∷◌, refl, sym, ◌∙◌, ap, arith}
use Rattle.std.specs.Prelude.{IsTrue}
use Rattle.std.proofs.lemmas.Bool.{eqb-true, true≢false, false≢true, false_from_ne_true}
use Rattle.std.proofs.lemmas.Bool.Decides.{nat_tests}
use Rattle.scp_types.specs.Trees.{Members, none, node, inner, Slices, names_in, member_count, HaveThresholds, IsNested}
use Rattle.scp_spec.specs.Sets.{Names, among}
use Rattle.scp_spec.specs.Satisfaction.{blocked_count, is_blocked, names}
use Rattle.scp_spec.proofs.Sets.Finite.{among_head, among_tail, among_left, among_right}

-- slices with enough members left are not blocked
enough : (k b n : ℕ) → k ≤ n → b ≡ 0 → ltb n (k + b) ≡ false
enough k b n h e = grind (arith, nat_tests)

-- a set blocks no member where it has none of the names
count_apart : (ms : Members) (set : Names) → HaveThresholds ms → ((u : ℕ) → IsTrue (among (names_in ms) u) → set u ≡ false) → blocked_count ms set ≡ 0
count_apart none set h apart = refl
count_apart (node u rest) set h apart =
    let here : set u ≡ false = apart u (among_head u (names_in rest)) in
    let later = count_apart rest set h (λ w c. apart w (among_tail u w (names_in rest) c)) in
    rw (here, later) refl
count_apart (inner k own rest) set h apart =
    let inside = count_apart own set h.1 (λ w c. apart w (among_left (names_in own) (names_in rest) w c)) in
    let later = count_apart rest set h.2 (λ w c. apart w (among_right (names_in own) (names_in rest) w c)) in
    let left = enough k (blocked_count own set) (member_count own) h.0.1 inside in
    rw (left, later) refl

-- a set with none of the names blocks no slices
pub blocked_apart : (q : Slices) (set : Names) → IsNested q → ((u : ℕ) → IsTrue (among (names q) u) → set u ≡ false) → is_blocked q set ≡ false
blocked_apart q set h apart = enough q.threshold (blocked_count q.members set) (member_count q.members) h.outer.1 (count_apart q.members set h.inner_sets apart)

-- the set of one name has no other
other_name : (w u : ℕ) (xs : List ℕ) → among xs w ≡ false → IsTrue (among xs u) → among (w ∷ []) u ≡ false
other_name w u xs n i = false_from_ne_true (among (w ∷ []) u) (λ e. let same : w ≡ u = eqb-true w u (or_empty (w == u) e) in true≢false (sym i ∙ (ap (λ x. among xs x) (sym same) ∙ n)))
  where
    or_empty : (b : Bool) → (b || false) ≡ true → b ≡ true
    or_empty true e = refl
    or_empty false e = absurd (false≢true e)

-- who blocks slices by itself is named in them
pub alone_is_named : (q : Slices) (w : ℕ) → IsNested q → IsTrue (is_blocked q (among (w ∷ []))) → IsTrue (among (names q) w)
alone_is_named q w h blocks = go (among (names q) w) refl
  where
    go : (b : Bool) → among (names q) w ≡ b → among (names q) w ≡ true
    go true e = e
    go false e = absurd (true≢false (sym blocks ∙ blocked_apart q (among (w ∷ [])) h (λ u i. other_name w u (names q) e i)))
