-- Every two runs have a verdict. The law `verdicts_are_determined` and `OfCrowds` stand on it.
use Rattle.scp_types.specs.declared.event.Out.{Out}
use Rattle.std.proofs.Common.{◌≡◌, ◌≢◌, ◌⊎◌, ℕ, zero, suc, ◌<◌, Bool, true, false, ◌&&◌, List, [], ◌∷◌, ◌++◌, map, flat_map, length, get_or, cond, is_some, append-nil, refl, sym, ◌∙◌, ap, subst, inl, inr, arith, IsTrue}
use Rattle.std.specs.List.{AllByRecursion, Contains}
use Rattle.std.proofs.lemmas.Bool.{cases_Bool, cases_order, and_parts, and_from, false≢true, true≢false}
use Rattle.std.proofs.lemmas.List.Elements.{Contains-append_left, Contains-append_right}
use Rattle.std.proofs.lemmas.List.Quantifiers.{all_pairs_push}
use Rattle.scp_spec.specs.Sets.{Names, among, IsAscending}
use Rattle.scp_spec.specs.Closures.{Rule, keeps}
use Rattle.scp_spec.specs.Networks.{HostedNode, slices_of}
use Rattle.scp_spec.specs.Hosts.{Entry}
use Rattle.scp_spec.specs.Isolation.{node_rule, announcement_rules, closure, kept_of, outs_of, SameCast}
use Rattle.scp_spec.specs.Verdicts.{Verdict, IsVerdict, IsFirstUnlike, IsFirstDifference, IsListOf, VerdictsExist}
use Rattle.scp_spec.specs.Verdicts.Verdict.{CastDiffers, InputsDiffer, Same}
use Rattle.scp_spec.proofs.Sets.Finite.{all_from, among_head, among_tail}
use Rattle.scp_spec.proofs.Sets.Contained.{all_from_contained, contains_head}
use Rattle.scp_spec.proofs.Sets.Least.{keeps-from, given_by_rule}
use Rattle.scp_spec.proofs.Sets.RuleLists.{least-in}
use Rattle.scp_spec.proofs.Verdicts.IsolatedRuns.{isolated_runs}
use Rattle.scp_spec.proofs.Equality.Decisions.{decided_slices, decided_option}
use Rattle.scp_spec.proofs.Equality.Steps.{decided_kept}
use Rattle.scp_spec.proofs.Equality.FirstDifference.{first_difference}
use Rattle.scp_spec.proofs.Equality.LeastNumber.{bound_of, among-below, least_among}

-- ---- a closure has finitely many members
abbrev rules_in : List HostedNode → ℕ → List Entry → List Rule
rules_in nodes i run = map node_rule nodes ++ flat_map (λ x. announcement_rules i x.event) run

-- a number above all names of a closure
pub closure-bound : List HostedNode → ℕ → ℕ → List Entry → ℕ
closure-bound nodes i v run = bound_of (v ∷ flat_map (λ r. r.gives) (rules_in nodes i run))

pub closure-below : (nodes : List HostedNode) (i v : ℕ) (run : List Entry) (u : ℕ) → closure nodes i v run u ≡ true
    → u < closure-bound nodes i v run
unfolding closure closure-bound
closure-below nodes i v run u h =
    let rules = rules_in nodes i run in
    let given = flat_map (λ (r : Rule). r.gives) rules in
    among-below (v ∷ given) u (least-in rules v (among (v ∷ given)) (among_head v given)
    (all_from_contained (keeps (among (v ∷ given))) rules
    (λ r c. keeps-from (among (v ∷ given)) r
    (λ s. all_from (among (v ∷ given)) r.gives (λ w m. among_tail v w given (given_by_rule rules r w c m))))) u h)

-- ---- casts
pub is_no : {A : Type 0} {x y : A} → (x ≡ y) ⊎ (x ≢ y) → Bool
is_no (inl e) = false
is_no (inr n) = true

pub is_no-true : {A : Type 0} {x y : A} (d : (x ≡ y) ⊎ (x ≢ y)) → is_no d ≡ true → x ≢ y
unfolding is_no
is_no-true (inl e) h = absurd (false≢true h)
is_no-true (inr n) h = n

pub is_no-false : {A : Type 0} {x y : A} (d : (x ≡ y) ⊎ (x ≢ y)) → is_no d ≡ false → x ≡ y
unfolding is_no
is_no-false (inl e) h = e
is_no-false (inr n) h = absurd (true≢false h)

module _ (R : Names) (v : ℕ) (one other : List HostedNode) where
  decide : (u : ℕ) → (slices_of one u ≡ slices_of other u) ⊎ (slices_of one u ≢ slices_of other u)
  decide u = decided_option decided_slices (slices_of one u) (slices_of other u)

  unlike : Names
  unlike u = R u && is_no (decide u)

  like : (u : ℕ) → R u ≡ true → unlike u ≡ false → slices_of one u ≡ slices_of other u
  unfolding unlike
  like u r h = is_no-false (decide u) (ap (λ b. b && is_no (decide u)) (sym r) ∙ h)

  pub cast_found : (bound : ℕ) → ((u : ℕ) → R u ≡ true → u < bound)
      → SameCast R v one other ⊎ ((u : ℕ) × IsFirstUnlike R v one other u)
  unfolding unlike
  cast_found bound below = elim (cases_Bool (is_some (slices_of one v))) [
    | inr o ↦ inr (v, inl (o, refl))
    | inl h ↦ elim (least_among unlike bound (λ u p. below u (and_parts (R u) (is_no (decide u)) p).0)) [
      | inl f ↦ inl (record { hosted = h; same = λ u r. like u r (f u) })
      | inr p ↦ let q = and_parts (R p.0) (is_no (decide p.0)) p.1.passes in
          inr (p.0, inr (h, (q.0, (is_no-true (decide p.0) q.1, λ w r l. like w r (p.1.none_before w l)))))
    ]
  ]

-- ---- the names below a bound that pass a test, ascending
names_passing : Names → ℕ → List ℕ
names_passing test zero = []
names_passing test (suc n) = names_passing test n ++ cond (test n) (n ∷ []) []

all_joined : {A : Type 0} (P : A → Type 0) (xs ys : List A) → AllByRecursion P xs → AllByRecursion P ys
    → AllByRecursion P (xs ++ ys)
all_joined P [] ys h k = k
all_joined P (x ∷ xs) ys h k = (h.0, all_joined P xs ys h.1 k)

all_weaker : {A : Type 0} (P Q : A → Type 0) → ((x : A) → P x → Q x) → (xs : List A) → AllByRecursion P xs
    → AllByRecursion Q xs
all_weaker P Q f [] h = tt
all_weaker P Q f (x ∷ xs) h = (f x h.0, all_weaker P Q f xs h.1)

all_at : {A : Type 0} (P : A → Type 0) (xs : List A) → AllByRecursion P xs → (k : ℕ) (d : A) → k < length xs
    → P (get_or xs k d)
all_at P [] h k d l = absurd (omega (arith, l))
all_at P (x ∷ xs) h zero d l = h.0
all_at P (x ∷ xs) h (suc k) d l = all_at P xs h.1 k d (omega (arith, l))

module _ (test : Names) where
  passing-below : (n : ℕ) → AllByRecursion (λ u. u < n) (names_passing test n)
  unfolding names_passing
  passing-below zero = tt
  passing-below (suc n) =
      all_joined (λ u. u < suc n) (names_passing test n) (cond (test n) (n ∷ []) [])
      (all_weaker (λ u. u < n) (λ u. u < suc n) (λ u l. omega (arith, l)) (names_passing test n) (passing-below n))
      (last (test n))
    where
      last : (b : Bool) → AllByRecursion (λ u. u < suc n) (cond b (n ∷ []) [])
      last true = (omega arith, tt)
      last false = tt

  passing-pass : (n : ℕ) → AllByRecursion (λ u. test u ≡ true) (names_passing test n)
  unfolding names_passing
  passing-pass zero = tt
  passing-pass (suc n) =
      all_joined (λ u. test u ≡ true) (names_passing test n) (cond (test n) (n ∷ []) []) (passing-pass n) (last (test n) refl)
    where
      last : (b : Bool) → test n ≡ b → AllByRecursion (λ u. test u ≡ true) (cond b (n ∷ []) [])
      last true e = (e, tt)
      last false e = tt

  passing-all : (n u : ℕ) → u < n → test u ≡ true → Contains (names_passing test n) u
  unfolding names_passing
  passing-all zero u l h = absurd (omega (arith, l))
  passing-all (suc n) u l h = elim (cases_order u n) [
    | inl e ↦ Contains-append_right (names_passing test n) (cond (test n) (n ∷ []) []) u
        (subst (λ b. Contains (cond b (n ∷ []) []) u) (sym h ∙ ap test e)
        (subst (λ w. Contains (w ∷ []) u) e (contains_head u [])))
    | inr (inl k) ↦ Contains-append_left (names_passing test n) (cond (test n) (n ∷ []) []) u (passing-all n u k h)
    | inr (inr k) ↦ absurd (omega (arith, l, k))
  ]

  passing-ascending : (n : ℕ) → IsAscending (names_passing test n)
  unfolding names_passing
  passing-ascending zero = λ i j d l k. absurd (omega (arith, k))
  passing-ascending (suc n) = go (test n) (passing-ascending n) (passing-below n)
    where
      go : (b : Bool) → IsAscending (names_passing test n) → AllByRecursion (λ u. u < n) (names_passing test n)
          → IsAscending (names_passing test n ++ cond b (n ∷ []) [])
      go true h k =
          all_pairs_push (λ x y. x < y) (names_passing test n) n h (λ i d l. all_at (λ u. u < n) (names_passing test n) k i d l)
      go false h k = subst IsAscending (sym (append-nil (names_passing test n))) h

-- ---- the verdict
module _ (R : Names) (nodes : List HostedNode) (i : ℕ) (runs others : List Entry) (bound : ℕ)
    (below : (u : ℕ) → R u ≡ true → u < bound)
    (same : (u : ℕ) → R u ≡ true → outs_of i u runs ≡ outs_of i u others) where
  hosted : Names
  hosted u = R u && is_some (slices_of nodes u)

  with_outs : List ℕ → List (ℕ × List Out)
  with_outs us = map (λ u. (u, outs_of i u runs)) us

  names-of : (us : List ℕ) → map (λ p. p.0) (with_outs us) ≡ us
  unfolding with_outs
  names-of [] = refl
  names-of (u ∷ us) = ap (λ ws. u ∷ ws) (names-of us)

  listed_in : (run : List Entry) → ((u : ℕ) → R u ≡ true → outs_of i u runs ≡ outs_of i u run)
      → IsListOf R nodes i run (with_outs (names_passing hosted bound))
  unfolding hosted with_outs
  listed_in run same = record {
    outs = each (names_passing hosted bound) (passing-pass hosted bound);
    all = λ u r h. subst (λ us. Contains us u) (sym (names-of (names_passing hosted bound)))
        (passing-all hosted bound u (below u r) (and_from (R u) (is_some (slices_of nodes u)) r h));
    ascending = subst IsAscending (sym (names-of (names_passing hosted bound))) (passing-ascending hosted bound);
  }
    where
      each : (us : List ℕ) → AllByRecursion (λ u. hosted u ≡ true) us
          → AllByRecursion
          (λ (p : ℕ × List Out). (p.1 ≡ outs_of i p.0 run) × (IsTrue (R p.0) × IsTrue (is_some (slices_of nodes p.0))))
          (map (λ u. (u, outs_of i u runs)) us)
      each [] h = tt
      each (u ∷ us) h =
          let p = and_parts (R u) (is_some (slices_of nodes u)) h.0 in ((same u p.0, (p.0, p.1)), each us h.1)

pub verdicts_exist : VerdictsExist
verdicts_exist one other runs others i v a b =
    go (cast_found R v one.nodes other.nodes (closure-bound one.nodes i v runs) (closure-below one.nodes i v runs))
    (first_difference decided_kept (kept_of R i runs) (kept_of R i others))
  where
    R : Names
    R = closure one.nodes i v runs

    go : SameCast R v one.nodes other.nodes ⊎ ((u : ℕ) × IsFirstUnlike R v one.nodes other.nodes u)
        → (kept_of R i runs ≡ kept_of R i others)
        ⊎ ((place : ℕ) × IsFirstDifference (kept_of R i runs) (kept_of R i others) place)
        → (verdict : Verdict) × IsVerdict one.nodes other.nodes runs others i v verdict
    go (inr p) f = (CastDiffers p.0, p.1)
    go (inl cast) (inr p) = (InputsDiffer p.0, (cast, p.1))
    go (inl cast) (inl same) =
        let alike = isolated_runs one other runs others i v a b cast same in
        let bound = closure-bound one.nodes i v runs in
        let below = closure-below one.nodes i v runs in (
          Same (with_outs R one.nodes i runs others bound below alike
              (names_passing (hosted R one.nodes i runs others bound below alike) bound)),
          (
            cast,
            (
              same,
              (
                listed_in R one.nodes i runs others bound below alike runs (λ u r. refl),
                listed_in R one.nodes i runs others bound below alike others alike,
              ),
            ),
          ),
        )
