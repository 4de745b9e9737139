-- The computed least set is closed, and lies in each closed set: closures and reach are such sets. The law
-- `closures_are_least`, `Nodes`, `Reach`, `Runs`, `Verdicts` and the crate `host_closure` stand on it.
use Rattle.std.proofs.Common.{◌≡◌, ℕ, true, not, ◌||◌, List, [], ◌∷◌, flat_map, sym, ◌∙◌, inl, inr, arith}
use Rattle.std.specs.List.{list_all, Contains}
use Rattle.std.proofs.lemmas.Bool.{cases_Bool, or_cases, and_parts, and_from, or_left, or_right, true≢false, false≢true, not-true, not_from_false}
use Rattle.scp_spec.specs.Sets.{Names, among, both, within, AreWithin}
use Rattle.scp_spec.specs.Closures.{Rule, keeps, is_closed, in_least, IsClosed, ClosuresAreLeast}
use Rattle.scp_spec.proofs.Sets.Finite.{all_from, among_head, among_tail, among_left, among_right, within-at, every_set-at, every_set-from}
use Rattle.scp_spec.proofs.Sets.Contained.{all_contained, all_from_contained, contained_cases}

-- ---- one rule
pub keeps-at : (set : Names) (r : Rule) → keeps set r ≡ true → within r.sources set ≡ true → within r.gives set ≡ true
keeps-at set r k w =
    elim (or_cases (not (within r.sources set)) (within r.gives set) k) [
      | inl e ↦ absurd
          (false≢true (sym (not-true _ e) ∙ w))
      | inr e ↦ e
    ]

pub keeps-from : (set : Names) (r : Rule) → (within r.sources set ≡ true → within r.gives set ≡ true)
    → keeps set r ≡ true
keeps-from set r f = elim (cases_Bool (within r.sources set)) [
  | inl e ↦ or_right (not (within r.sources set)) (within r.gives set) (f e)
  | inr e ↦ or_left (not (within r.sources set)) (within r.gives set) (not_from_false _ e)
]

-- ---- the test of a closed set is what it says
pub is_closed-from : (rules : List Rule) (v : ℕ) (set : Names) → IsClosed rules v set → is_closed rules v set ≡ true
is_closed-from rules v set c =
    and_from (set v) (list_all (keeps set) rules) c.start
    (all_from_contained (keeps set) rules
    (λ r i. keeps-from set r (λ w. all_from set r.gives (c.each r i (λ u. within-at r.sources set u w)))))

pub is_closed-at : (rules : List Rule) (v : ℕ) (set : Names) → is_closed rules v set ≡ true → IsClosed rules v set
is_closed-at rules v set h =
    let p = and_parts (set v) (list_all (keeps set) rules) h in
    record {
      start = p.0;
      each = λ r i w u g. within-at r.gives set u
          (keeps-at set r (all_contained (keeps set) rules r p.1 i) (all_from set r.sources w)) g;
    }

-- ---- the least set
pub given_by_rule : (rules : List Rule) (r : Rule) (u : ℕ) → Contains rules r → among r.gives u ≡ true
    → among (flat_map (λ x. x.gives) rules) u ≡ true
given_by_rule [] r u c g = absurd (let l = c.1 in omega arith)
given_by_rule (x ∷ xs) r u c g = elim (contained_cases r x xs c) [
  | inl e ↦ among_left x.gives (flat_map (λ y. y.gives) xs) u (rw e g)
  | inr i ↦ among_right x.gives (flat_map (λ y. y.gives) xs) u (given_by_rule xs r u i g)
]

-- a closed set, cut to the names that the rules give, is closed
closed_cut : (rules : List Rule) (v : ℕ) (set : Names) → IsClosed rules v set
    → IsClosed rules v (both (among (v ∷ flat_map (λ r. r.gives) rules)) set)
closed_cut rules v set c =
    let all = v ∷ flat_map (λ r. r.gives) rules in
    record {
      start = and_from (among all v) (set v) (among_head v (flat_map (λ r. r.gives) rules)) c.start;
      each = λ r i w u g. and_from (among all u) (set u)
          (among_tail v u (flat_map (λ r. r.gives) rules) (given_by_rule rules r u i g))
          (c.each r i (λ x s. (and_parts (among all x) (set x) (w x s)).1) u g);
    }

-- it lies in each closed set
pub in_least-in : (rules : List Rule) (v : ℕ) (set : Names) → IsClosed rules v set → AreWithin (in_least rules v) set
unfolding in_least
in_least-in rules v set c u h =
    let all = v ∷ flat_map (λ r. r.gives) rules in
    let inside = both (among all) set in
    let e : (not (is_closed rules v inside) || inside u) ≡ true =
    every_set-at all (λ s. not (is_closed rules v s) || s u) set h in
    let closed = is_closed-from rules v inside (closed_cut rules v set c) in
    elim (or_cases (not (is_closed rules v inside)) (inside u) e) [
      | inl n ↦ absurd (true≢false (sym closed ∙ not-true _ n))
      | inr m ↦ (and_parts (among all u) (set u) m).1
    ]

-- and has what is in all of them
pub in_least-from : (rules : List Rule) (v u : ℕ) → ((set : Names) → IsClosed rules v set → set u ≡ true)
    → in_least rules v u ≡ true
unfolding in_least
in_least-from rules v u f =
    every_set-from (v ∷ flat_map (λ r. r.gives) rules) (λ s. not (is_closed rules v s) || s u)
    (λ s w. elim (cases_Bool (is_closed rules v s)) [
      | inl e ↦ or_right (not (is_closed rules v s)) (s u) (f s (is_closed-at rules v s e))
      | inr e ↦ or_left (not (is_closed rules v s)) (s u) (not_from_false _ e)
    ])

pub in_least-closed : (rules : List Rule) (v : ℕ) → IsClosed rules v (in_least rules v)
in_least-closed rules v = record {
  start = in_least-from rules v v (λ s c. c.start);
  each = λ r i w u g. in_least-from rules v u (λ s c. c.each r i (λ x m. in_least-in rules v s c x (w x m)) u g);
}

pub closures_least : ClosuresAreLeast
closures_least rules v = record { closed = in_least-closed rules v; least = in_least-in rules v }
