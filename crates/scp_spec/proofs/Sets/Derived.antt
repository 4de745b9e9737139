-- The least set has exactly what is derived: rules are used up one by one, until none that is left applies. The law
-- `closures_are_derived`, `Reach` and the crate `host_closure` stand on it.
use Rattle.std.proofs.Common.{◌≡◌, ℕ, zero, suc, ◌<◌, ◌≤◌, true, false, ◌||◌, ◌==◌, ◌⊎◌, List, [], ◌∷◌, length, refl, sym, ◌∙◌, subst, inl, inr, arith}
use Rattle.std.specs.List.{Contains}
use Rattle.std.proofs.Math.Path.{fun_ext}
use Rattle.std.proofs.lemmas.Bool.{cases_Bool, or_cases, or_left, or_right, false≢true, eqb-true, eq-eqb}
use Rattle.scp_spec.specs.Sets.{Names, among, within}
use Rattle.scp_spec.specs.Closures.{Rule, in_least, Derived, IsClosed, ClosuresAreDerived}
use Rattle.scp_spec.specs.Closures.Derived.{start, given}
use Rattle.scp_spec.proofs.Sets.Finite.{same_test, all_from, within-at}
use Rattle.scp_spec.proofs.Sets.Contained.{contained_cases, contains_head, contains_tail}
use Rattle.scp_spec.proofs.Sets.Least.{in_least-closed, in_least-from, in_least-in}

-- what is derived is in each closed set
pub derived-in : (rules : List Rule) (v : ℕ) (set : Names) → IsClosed rules v set → {u : ℕ} → Derived rules v u
    → set u ≡ true
derived-in rules v set c start = c.start
derived-in rules v set c (given r {u} i f g) = c.each r i (λ w m. derived-in rules v set c (f w m)) u g

-- A closed set whose members are derived is the least one: what a sweep has to show.
pub least_is : (rules : List Rule) (v : ℕ) (set : Names) → IsClosed rules v set
    → ((u : ℕ) → set u ≡ true → Derived rules v u) → set ≡ in_least rules v
least_is rules v set c d =
    fun_ext (λ u. same_test (set u) (in_least rules v u)
    (λ s. in_least-from rules v u (λ other k. derived-in rules v other k (d u s))) (λ s. in_least-in rules v set c u s))

-- ---- each member of the least set is derived: rules are used up one by one, until none that is left applies
-- one of the rules, and all others of the list
record IsPicked (left : List Rule) (r : Rule) (rest : List Rule) : Type 0 where
  pub picked : Contains left r
  pub fewer : length rest < length left
  pub others : (x : Rule) → Contains left x → (r ≡ x) ⊎ Contains rest x
  pub known : (x : Rule) → Contains rest x → Contains left x

-- a rule whose sources are all in
record IsApplicable (left : List Rule) (set : Names) : Type 0 where
  pub rule : Rule
  pub rest : List Rule
  pub picked : IsPicked left rule rest
  pub applies : within rule.sources set ≡ true

abbrev AppliesNone : List Rule → Names → Type 0
AppliesNone left set = (r : Rule) → Contains left r → within r.sources set ≡ false

pick_later : (x : Rule) (xs : List Rule) (set : Names) → IsApplicable xs set → IsApplicable (x ∷ xs) set
pick_later x xs set p = record {
  rule = p.rule;
  rest = x ∷ p.rest;
  picked = record {
    picked = contains_tail p.rule x xs p.picked.picked;
    fewer = let n = p.picked.fewer in omega arith;
    others = λ y c. elim (contained_cases y x xs c) [
      | inl q ↦ inr (subst (λ z. Contains (x ∷ p.rest) z) q (contains_head x p.rest))
      | inr i ↦ elim (p.picked.others y i) [ inl q ↦ inl q | inr j ↦ inr (contains_tail y x p.rest j) ]
    ];
    known = λ y c. elim (contained_cases y x p.rest c) [
      | inl q ↦ subst (λ z. Contains (x ∷ xs) z) q (contains_head x xs)
      | inr i ↦ contains_tail y x xs (p.picked.known y i)
    ];
  };
  applies = p.applies;
}

pick : (left : List Rule) (set : Names) → IsApplicable left set ⊎ AppliesNone left set
pick [] set = inr (λ r c. absurd (let l = c.1 in omega arith))
pick (x ∷ xs) set = elim (cases_Bool (within x.sources set)) [
  | inl e ↦ inl (record {
    rule = x;
    rest = xs;
    picked = record {
      picked = contains_head x xs;
      fewer = omega arith;
      others = λ y c. contained_cases y x xs c;
      known = λ y c. contains_tail y x xs c;
    };
    applies = e;
  })
  | inr e ↦ elim (pick xs set) [
    | inl p ↦ inl (pick_later x xs set p)
    | inr none ↦ inr
        (λ y c. elim (contained_cases y x xs c) [
          | inl q ↦ subst
              (λ (z : Rule). within z.sources set ≡ false) q e
          | inr i ↦ none y i
        ])
  ]
]

module _ (rules : List Rule) (v : ℕ) where
  -- derived names, and the rules that may still give more
  record IsUnderway (left : List Rule) (set : Names) : Type 0 where
    pub start : set v ≡ true
    pub derived : (u : ℕ) → set u ≡ true → Derived rules v u
    pub known : (r : Rule) → Contains left r → Contains rules r
    pub used : (r : Rule) → Contains rules r → Contains left r ⊎ (within r.gives set ≡ true)

  -- where no rule that is left applies, the set is closed
  is_done : (left : List Rule) (set : Names) → IsUnderway left set → AppliesNone left set → IsClosed rules v set
  is_done left set way none = record {
    start = way.start;
    each = λ r i w u g. elim (way.used r i) [
      | inl k ↦ absurd (false≢true (sym (none r k) ∙ all_from set r.sources w))
      | inr k ↦ within-at r.gives set u k g
    ];
  }

  abbrev with_given : Rule → Names → Names
  with_given r set u = among r.gives u || set u

  -- a rule that applies gives names that are derived
  one_more : (left : List Rule) (set : Names) → IsUnderway left set → (p : IsApplicable left set)
      → IsUnderway p.rest (with_given p.rule set)
  one_more left set way p = record {
    start = or_right (among p.rule.gives v) (set v) way.start;
    derived = λ u h. elim (or_cases (among p.rule.gives u) (set u) h) [
      | inl g ↦ given p.rule (way.known p.rule p.picked.picked)
          (λ w m. way.derived w (within-at p.rule.sources set w p.applies m)) g
      | inr s ↦ way.derived u s
    ];
    known = λ x c. way.known x (p.picked.known x c);
    used = λ x c. elim (way.used x c) [
      | inl k ↦ elim (p.picked.others x k) [
        | inl q ↦ inr
            (all_from (with_given p.rule set) x.gives (λ u g. or_left (among p.rule.gives u) (set u) (rw q g)))
        | inr i ↦ inl i
      ]
      | inr k ↦ inr
          (all_from (with_given p.rule set) x.gives
          (λ u g. or_right (among p.rule.gives u) (set u) (within-at x.gives set u k g)))
    ];
  }

  -- a closed set, all of whose members are derived
  record AllDerived : Type 0 where
    pub set : Names
    pub closed : IsClosed rules v set
    pub derived : (u : ℕ) → set u ≡ true → Derived rules v u

  use_up : (n : ℕ) (left : List Rule) (set : Names) → length left ≤ n → IsUnderway left set → AllDerived
  use_up zero left set few way = elim (pick left set) [
    | inl p ↦ absurd (let l = p.picked.fewer in omega arith)
    | inr none ↦ record { set = set; closed = is_done left set way none; derived = way.derived }
  ]
  use_up (suc n) left set few way = elim (pick left set) [
    | inl p ↦ use_up n p.rest (with_given p.rule set) (let l = p.picked.fewer in omega arith) (one_more left set way p)
    | inr none ↦ record { set = set; closed = is_done left set way none; derived = way.derived }
  ]

  all_derived : AllDerived
  all_derived = use_up (length rules) rules (λ u. v == u) (omega arith) (record {
    start = eq-eqb v v refl;
    derived = λ u e. subst (λ w. Derived rules v w) (eqb-true v u e) start;
    known = λ r c. c;
    used = λ r c. inl c;
  })

pub closures_derived : ClosuresAreDerived
closures_derived rules v u = (
  λ h. let d = all_derived rules v in d.derived u (in_least-in rules v d.set d.closed u h),
  λ d. derived-in rules v (in_least rules v) (in_least-closed rules v) d,
)
