-- Satisfaction grows with the set, looks at named nodes alone, and is dual to blocking. The law `blocking_is_counted`,
-- `Balloting`, `Nodes`, `Passes` and five crates stand on it.
use Rattle.std.proofs.Common.{◌≡◌, ℕ, ◌+◌, ◌≤◌, Bool, true, false, not, cond, leb, ltb, refl, sym, ◌∙◌, ap, arith, ◌↔◌, IsTrue}
use Rattle.std.proofs.lemmas.Bool.{false≢true, not-true, not_from_false, false_from_ne_true}
use Rattle.std.proofs.lemmas.Bool.Decides.{nat_tests}
use Rattle.scp_types.specs.Trees.{Members, none, node, inner, Slices, names_in, member_count}
use Rattle.scp_spec.specs.Sets.{Names, among, AreWithin}
use Rattle.scp_spec.specs.Satisfaction.{satisfied_count, blocked_count, sat, is_blocked, names, Blocks, BlockingIsCounted}
use Rattle.scp_spec.proofs.Sets.Finite.{among_head, among_tail, among_left, among_right}

bit_le : (x y : Bool) → (x ≡ true → y ≡ true) → cond x 1 0 ≤ cond y 1 0
bit_le false y h = omega arith
bit_le true true h = omega arith
bit_le true false h = absurd (false≢true (h refl))

leb_more : (k m n : ℕ) → m ≤ n → leb k m ≡ true → leb k n ≡ true
leb_more k m n h e = grind (arith, nat_tests)

count_monotone : (ms : Members) (a b : Names) → AreWithin a b → satisfied_count ms a ≤ satisfied_count ms b
count_monotone none a b h = omega arith
count_monotone (node u rest) a b h = omega (arith, bit_le (a u) (b u) (h u), count_monotone rest a b h)
count_monotone (inner k own rest) a b h =
    let more = leb_more k (satisfied_count own a) (satisfied_count own b) (count_monotone own a b h) in
    omega (
      arith,
      bit_le (leb k (satisfied_count own a)) (leb k (satisfied_count own b)) more,
      count_monotone rest a b h,
    )

-- a greater set still satisfies
pub sat_monotone : (q : Slices) (a b : Names) → AreWithin a b → IsTrue (sat q a) → IsTrue (sat q b)
sat_monotone q a b h =
    leb_more q.threshold (satisfied_count q.members a) (satisfied_count q.members b) (count_monotone q.members a b h)

count_local : (ms : Members) (a b : Names) → ((u : ℕ) → IsTrue (among (names_in ms) u) → a u ≡ b u)
    → satisfied_count ms a ≡ satisfied_count ms b
count_local none a b h = refl
count_local (node u rest) a b h =
    let here : a u ≡ b u = h u (among_head u (names_in rest)) in
    let later = count_local rest a b (λ w c. h w (among_tail u w (names_in rest) c)) in
    rw (here, later) refl
count_local (inner k own rest) a b h =
    let inside = count_local own a b (λ w c. h w (among_left (names_in own) (names_in rest) w c)) in
    let later = count_local rest a b (λ w c. h w (among_right (names_in own) (names_in rest) w c)) in
    rw (inside, later) refl

-- sets that agree on the names get one answer
pub sat_local : (q : Slices) (a b : Names) → ((u : ℕ) → IsTrue (among (names q) u) → a u ≡ b u) → sat q a ≡ sat q b
sat_local q a b h = ap (leb q.threshold) (count_local q.members a b h)

bit_not : (x : Bool) → cond (not x) 1 0 + cond x 1 0 ≡ 1
bit_not true = refl
bit_not false = refl

bit_split : (k m b n : ℕ) → m + b ≡ n → cond (leb k m) 1 0 + cond (ltb n (k + b)) 1 0 ≡ 1
bit_split k m b n e = grind (arith, nat_tests)

-- all that is not in the set
abbrev pub outside : Names → Names
outside set u = not (set u)

count_outside : (ms : Members) (b : Names) → satisfied_count ms (outside b) + blocked_count ms b ≡ member_count ms
count_outside none b = refl
count_outside (node u rest) b = omega (arith, bit_not (b u), count_outside rest b)
count_outside (inner k own rest) b =
    let split =
    bit_split k (satisfied_count own (outside b)) (blocked_count own b) (member_count own) (count_outside own b) in
    omega (arith, split, count_outside rest b)

split_tests : (k m b n : ℕ) → m + b ≡ n → leb k m ≡ not (ltb n (k + b))
split_tests k m b n e = grind (arith, nat_tests)

-- a set blocks exactly when what is left does not satisfy
pub sat_outside : (q : Slices) (b : Names) → sat q (outside b) ≡ not (is_blocked q b)
sat_outside q b =
    split_tests q.threshold (satisfied_count q.members (outside b)) (blocked_count q.members b) (member_count q.members)
    (count_outside q.members b)

not_from : (b : Bool) → b ≡ false → (c : Bool) → b ≡ not c → c ≡ true
not_from b e true h = refl
not_from b e false h = absurd (false≢true (sym e ∙ h))

-- a set blocks exactly when no set apart from it satisfies
pub sat_dual : (q : Slices) (b : Names) → IsTrue (is_blocked q b) ↔ Blocks sat q b
sat_dual q b = (
  λ h apart is_apart. false_from_ne_true _ (λ s.
      let t = sat_monotone q apart (outside b) (λ u i. not_from_false (b u) (is_apart u i)) s in
      false≢true (sym (sat_outside q b ∙ ap not h) ∙ t)),
  λ f. not_from (sat q (outside b)) (f (outside b) (λ u i. not-true (b u) i)) (is_blocked q b) (sat_outside q b),
)

pub blocking_counted : BlockingIsCounted
blocking_counted = sat_dual
