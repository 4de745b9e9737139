-- From the parts of a comparison to its verdict.
use Rattle.scp_types.specs.declared.event.Out.{Out}
use Rattle.std.proofs.Common.{◌≡◌, ℕ, ◌<◌, Bool, true, false, ◌==◌, ◌⊎◌, List, [], ◌∷◌, map, filter, Option, Some, None, is_some, cond, if◌then◌else◌, refl, sym, ◌∙◌, ap, subst, inl, inr, arith, IsTrue}
use Rattle.std.specs.List.{AllByRecursion, Contains}
use Rattle.std.specs.Option.{option_map}
use Rattle.std.proofs.Math.Path.{fun_ext}
use Rattle.std.proofs.lemmas.Bool.{eq-eqb, eqb-true, true≢false, false≢true}
use Rattle.std.proofs.lemmas.List.Kept.{AllPairs-filter}
use Rattle.scp_spec.specs.Sets.{Names, among, IsAscending}
use Rattle.scp_spec.specs.Networks.{HostedNode, slices_of}
use Rattle.scp_spec.specs.Hosts.{Entry}
use Rattle.scp_spec.specs.Isolation.{closure, kept_of, outs_of, SameCast}
use Rattle.scp_spec.specs.Verdicts.{IsFirstDifference, IsListOf, IsVerdict}
use Rattle.scp_spec.proofs.Sets.Contained.{contains_head, contains_tail, contained_cases}
use Rattle.host_closure.specs.Announcing.{MemberList, member_names, IsClosureList}
use Rattle.host_compare.specs.declared.verdict.Verdict.TheVariants.{InputsDiffer, Same}
use Rattle.host_closure.specs.Hosting.{AreHostedAlike}
use Rattle.host_journal.specs.Logs.{Log}
use Rattle.scp_spec.specs.Runs.{IsRun}
use Rattle.scp_spec.proofs.Runs.KeptWithin.{closure-start}
use Rattle.scp_spec.proofs.Verdicts.IsolatedRuns.{isolated_runs}
use Rattle.host_compare.specs.declared.verdict.Verdict.{Verdict}
use Rattle.host_compare.specs.Meanings.{AreIsolated, IsVerdictOn, nodes_in, defined_verdict}
use Rattle.host_compare.specs.OutLists.{hosted_in, outs_of_each}

-- ---- what passes a test
module _ (R : Names) where
  passed : (xs : List ℕ) (u : ℕ) → Contains (filter R xs) u → Contains xs u × (R u ≡ true)
  passed [] u c = absurd (let l = c.1 in omega arith)
  passed (x ∷ xs) u c = go (R x) refl c (passed xs u)
    where
      go : (b : Bool) → R x ≡ b → Contains (cond b (x ∷ filter R xs) (filter R xs)) u → (Contains (filter R xs) u → Contains xs u × (R u ≡ true)) → Contains (x ∷ xs) u × (R u ≡ true)
      go true e k f = elim (contained_cases u x (filter R xs) k) [
        | inl q ↦ (subst (λ y. Contains (x ∷ xs) y) q (contains_head x xs), subst (λ y. R y ≡ true) q e)
        | inr m ↦ let r = f m in (contains_tail u x xs r.0, r.1)
      ]
      go false e k f = let r = f k in (contains_tail u x xs r.0, r.1)

  passes : (xs : List ℕ) (u : ℕ) → Contains xs u → R u ≡ true → Contains (filter R xs) u
  passes [] u c h = absurd (let l = c.1 in omega arith)
  passes (x ∷ xs) u c h = go (R x) refl (contained_cases u x xs c) (λ k. passes xs u k h)
    where
      go : (b : Bool) → R x ≡ b → (x ≡ u) ⊎ Contains xs u → (Contains xs u → Contains (filter R xs) u) → Contains (cond b (x ∷ filter R xs) (filter R xs)) u
      go true e (inl q) f = subst (λ y. Contains (x ∷ filter R xs) y) q (contains_head x (filter R xs))
      go true e (inr k) f = contains_tail u x (filter R xs) (f k)
      go false e (inl q) f = absurd (true≢false (sym h ∙ (ap R (sym q) ∙ e)))
      go false e (inr k) f = f k

-- ---- hosted nodes
abbrev node_names : List HostedNode → List ℕ
node_names nodes = map (λ h. h.name) nodes

named_hosted : (nodes : List HostedNode) (u : ℕ) → is_some (slices_of nodes u) ≡ true → Contains (node_names nodes) u
named_hosted [] u h = absurd (false≢true h)
named_hosted (x ∷ xs) u h = go (x.name == u) refl h (named_hosted xs u)
  where
    go : (b : Bool) → (x.name == u) ≡ b → is_some (if b then Some x.slices else slices_of xs u) ≡ true → (is_some (slices_of xs u) ≡ true → Contains (node_names xs) u) → Contains (x.name ∷ node_names xs) u
    go true e k f = subst (λ y. Contains (x.name ∷ node_names xs) y) (eqb-true x.name u e) (contains_head x.name (node_names xs))
    go false e k f = contains_tail u x.name (node_names xs) (f k)

hosted_named : (nodes : List HostedNode) (u : ℕ) → Contains (node_names nodes) u → is_some (slices_of nodes u) ≡ true
hosted_named [] u c = absurd (let l = c.1 in omega arith)
hosted_named (x ∷ xs) u c = go (x.name == u) refl (contained_cases u x.name (node_names xs) c) (hosted_named xs u)
  where
    go : (b : Bool) → (x.name == u) ≡ b → (x.name ≡ u) ⊎ Contains (node_names xs) u → (Contains (node_names xs) u → is_some (slices_of xs u) ≡ true) → is_some (if b then Some x.slices else slices_of xs u) ≡ true
    go true e s f = refl
    go false e (inl q) f = absurd (true≢false (sym (eq-eqb x.name u q) ∙ e))
    go false e (inr k) f = f k

-- ---- the list of hosted members
module _ (R : Names) (nodes : List HostedNode) (i : ℕ) (run : List Entry) where
  names_kept : (list : List ℕ) → map (λ p. p.0) (outs_of_each i run list) ≡ list
  names_kept [] = refl
  names_kept (u ∷ us) = ap (λ (ys : List ℕ). u ∷ ys) (names_kept us)

  each_right : (others : List Entry) (list : List ℕ) → ((u : ℕ) → Contains list u → (outs_of i u run ≡ outs_of i u others) × (IsTrue (R u) × IsTrue (is_some (slices_of nodes u))))
      → AllByRecursion (λ p. (p.1 ≡ outs_of i p.0 others) × (IsTrue (R p.0) × IsTrue (is_some (slices_of nodes p.0)))) (outs_of_each i run list)
  each_right others [] f = tt
  each_right others (u ∷ us) f = (f u (contains_head u us), each_right others us (λ w c. f w (contains_tail w u us c)))

  pub is_list : (others : List Entry) → IsAscending (node_names nodes) → ((u : ℕ) → IsTrue (R u) → outs_of i u run ≡ outs_of i u others) → IsListOf R nodes i others (outs_of_each i run (hosted_in R nodes))
  is_list others up same = record {
    outs = each_right others (hosted_in R nodes) (λ u c. let p = passed R (node_names nodes) u c in (same u p.1, (p.1, hosted_named nodes u p.0)));
    all = λ u r h. subst (λ (xs : List ℕ). Contains xs u) (sym (names_kept (hosted_in R nodes))) (passes R (node_names nodes) u (named_hosted nodes u h) r);
    ascending = subst IsAscending (sym (names_kept (hosted_in R nodes))) (AllPairs-filter (λ x y. x < y) R (node_names nodes) up);
  }

-- ---- verdicts
-- a verdict is right
abbrev IsVerdictOf : List HostedNode → List HostedNode → List Entry → List Entry → ℕ → ℕ → Verdict → Type 0
IsVerdictOf one other run others i v verdict = IsVerdict one other run others i v (defined_verdict verdict)

-- the same cast and the same kept steps, and so the same outs
abbrev AreIsolatedRuns : List HostedNode → List HostedNode → List Entry → List Entry → ℕ → ℕ → Type 0
AreIsolatedRuns one other run others i v =
    let R = closure one i v run in
    SameCast R v one other → kept_of R i run ≡ kept_of R i others → (u : ℕ) → IsTrue (R u) → outs_of i u run ≡ outs_of i u others

-- ---- isolation of two journals, and where a world has none
pub isolated_both : (one other : Log) (i v : ℕ) → IsRun one.config one.entries → IsRun other.config other.entries → AreIsolated (Some one) (Some other) i v
isolated_both one other i v a b = isolated_runs one.config other.config one.entries other.entries i v a b

pub isolated_alone : (one : Log) (i v : ℕ) → AreIsolated (Some one) None i v
isolated_alone one i v cast same u m = absurd (true≢false (sym cast.hosted ∙ ap is_some (cast.same v (closure-start one.config.nodes i v one.entries))))

module _ (one other : List HostedNode) (run others : List Entry) (i v : ℕ) where
  module _ (list : MemberList) (c : IsClosureList one i v run list) (hosted : is_some (slices_of one v) ≡ true) where
    abbrev here : Names
    here = among (member_names list)

    set_is : here ≡ closure one i v run
    set_is = fun_ext c.exactly

    cast : AreHostedAlike one other (member_names list) → SameCast (closure one i v run) v one other
    cast a = record { hosted = hosted; same = λ u m. a u (c.exactly u ∙ m) }

    -- nobody is hosted where a world lacks the network: the node itself is hosted unlike
    pub never_alone : AreHostedAlike one [] (member_names list) → ⊥
    never_alone a = true≢false (sym hosted ∙ ap is_some (a v (c.exactly v ∙ closure-start one i v run)))

    pub judged_inputs : AreHostedAlike one other (member_names list) → (place : ℕ) → IsFirstDifference (kept_of here i run) (kept_of here i others) place → IsVerdictOf one other run others i v (InputsDiffer place)
    judged_inputs a place d = (cast a, subst (λ (R : Names). IsFirstDifference (kept_of R i run) (kept_of R i others) place) set_is d)

    pub judged_same : IsAscending (node_names one) → AreHostedAlike one other (member_names list) → kept_of here i run ≡ kept_of here i others → AreIsolatedRuns one other run others i v → (given : List (ℕ × List Out)) → given ≡ outs_of_each i run (hosted_in here one)
        → IsVerdictOf one other run others i v (Same given)
    judged_same up a same isolated given is =
        let R = closure one i v run in
        let kept = subst (λ (S : Names). kept_of S i run ≡ kept_of S i others) set_is same in
        let made : given ≡ outs_of_each i run (hosted_in R one) = is ∙ ap (λ (S : Names). outs_of_each i run (hosted_in S one)) set_is in (
          cast a,
          (
            kept,
            (
              subst (λ (xs : List (ℕ × List Out)). IsListOf R one i run xs) (sym made) (is_list R one i run run up (λ u m. refl)),
              subst (λ (xs : List (ℕ × List Out)). IsListOf R one i others xs) (sym made) (is_list R one i run others up (λ u m. isolated (cast a) kept u m)),
            ),
          ),
        )

-- ---- verdicts on what two worlds have of a network
module _ (one : Log) (o : Option Log) (i v : ℕ) (list : MemberList) (c : IsClosureList one.config.nodes i v one.entries list) (hosted : is_some (slices_of one.config.nodes v) ≡ true) (alike : AreHostedAlike one.config.nodes (nodes_in o) (member_names list)) where
  alike_in : (p : Option Log) → o ≡ p → AreHostedAlike one.config.nodes (nodes_in p) (member_names list)
  alike_in p q = subst (λ (r : Option Log). AreHostedAlike one.config.nodes (nodes_in r) (member_names list)) q alike

  pub never_without : o ≡ None → ⊥
  never_without q = never_alone one.config.nodes [] one.entries [] i v list c hosted (alike_in None q)

  module _ (other : Log) (q : o ≡ Some other) where
    pub inputs_with : (place : ℕ) → IsFirstDifference (kept_of (among (member_names list)) i one.entries) (kept_of (among (member_names list)) i other.entries) place → IsVerdictOn (Some one) o i v (InputsDiffer place)
    inputs_with place d = subst (λ (r : Option Log). IsVerdictOn (Some one) r i v (InputsDiffer place)) (sym q) (judged_inputs one.config.nodes other.config.nodes one.entries other.entries i v list c hosted (alike_in (Some other) q) place d)

    pub same_with : IsAscending (node_names one.config.nodes) → kept_of (among (member_names list)) i one.entries ≡ kept_of (among (member_names list)) i other.entries → AreIsolated (Some one) o i v
        → (given : List (ℕ × List Out)) → given ≡ outs_of_each i one.entries (hosted_in (among (member_names list)) one.config.nodes) → IsVerdictOn (Some one) o i v (Same given)
    same_with up same isolated given is = subst (λ (r : Option Log). IsVerdictOn (Some one) r i v (Same given)) (sym q)
        (judged_same one.config.nodes other.config.nodes one.entries other.entries i v list c hosted up (alike_in (Some other) q) same (subst (λ (r : Option Log). AreIsolated (Some one) r i v) q isolated) given is)

pub some_mapped : {X Y : Type 0} (f : X → Y) (o : Option X) → is_some (option_map f o) ≡ is_some o
some_mapped f None = refl
some_mapped f (Some x) = refl
