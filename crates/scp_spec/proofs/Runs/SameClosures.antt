-- Where casts and kept steps are the same, the closure is the same set in both worlds. The law `closures_are_the_same`
-- stands on it.
use Rattle.std.proofs.Common.{◌≡◌, ℕ, Bool, true, false, ◌==◌, List, [], ◌∷◌, ◌++◌, map, flat_map, if◌then◌else◌, refl, sym, ◌∙◌, subst}
use Rattle.std.specs.List.{list_all, Contains, AllByRecursion}
use Rattle.std.proofs.lemmas.Bool.{and_parts, and_from}
use Rattle.scp_spec.specs.Sets.{Names, AreWithin, within}
use Rattle.scp_spec.specs.Satisfaction.{names}
use Rattle.scp_spec.specs.Closures.{Rule, keeps}
use Rattle.scp_spec.specs.Networks.{HostedNode, Step}
use Rattle.scp_spec.specs.Networks.Reading.{Read}
use Rattle.scp_spec.specs.Networks.Step.{Delivers, Reslices}
use Rattle.scp_spec.specs.Hosts.{Entry}
use Rattle.scp_spec.specs.Isolation.{closure, node_rule, announcement_rules, SameClosures}
use Rattle.scp_spec.proofs.Sets.Finite.{same_test}
use Rattle.scp_spec.proofs.Sets.Contained.{contains_head, contains_tail}
use Rattle.scp_spec.proofs.Sets.Least.{keeps-from}
use Rattle.scp_spec.proofs.Sets.RuleLists.{least-in}
use Rattle.scp_spec.proofs.Sets.Lists.{all-append}
use Rattle.scp_spec.proofs.Runs.Events.{IsWithin}
use Rattle.scp_spec.proofs.Runs.KeptSteps.{AllIn}
use Rattle.scp_spec.proofs.Runs.KeptWithin.{IsKeptIn, all_kept-from, all_kept-to, all_in-other, nodes-closed, events-closed, closure-start}

module _ (R : Names) where
  -- the rules of hosted nodes are kept where the slices of hosted members lie in the set
  keeps-nodes : (nodes : List HostedNode)
      → ((h : HostedNode) → Contains nodes h → R h.name ≡ true → within (names h.slices) R ≡ true)
      → list_all (keeps R) (map node_rule nodes) ≡ true
  keeps-nodes [] f = refl
  keeps-nodes (h ∷ hs) f =
      and_from (keeps R (node_rule h)) (list_all (keeps R) (map node_rule hs))
      (keeps-from R (node_rule h) (λ w. f h (contains_head h hs) (and_parts (R h.name) true w).0))
      (keeps-nodes hs (λ x c. f x (contains_tail x h hs c)))

  one_rule : (b : Bool) (r : Rule) → (b ≡ true → keeps R r ≡ true)
      → list_all (keeps R) (if b then r ∷ [] else []) ≡ true
  one_rule true r f = and_from (keeps R r) true (f refl) refl
  one_rule false r f = refl

  keeps-event : (i : ℕ) (e : Step) → IsWithin R i e → list_all (keeps R) (announcement_rules i e) ≡ true
  keeps-event i (Delivers u size (Read e)) h =
      one_rule (e.slot == i) (record { sources = u ∷ e.sender ∷ []; gives = names e.slices })
      (λ y. keeps-from R (record { sources = u ∷ e.sender ∷ []; gives = names e.slices })
      (λ w. let p = and_parts (R u) (within (e.sender ∷ []) R) w in h y p.0 (and_parts (R e.sender) true p.1).0))
  keeps-event i (Reslices j u q) h =
      one_rule (j == i) (record { sources = u ∷ []; gives = names q })
      (λ y. keeps-from R (record { sources = u ∷ []; gives = names q }) (λ w. h y (and_parts (R u) true w).0))
  keeps-event i _ h = refl

  keeps-events : (i : ℕ) (entries : List Entry) → AllIn R i entries
      → list_all (keeps R) (flat_map (λ x. announcement_rules i x.event) entries) ≡ true
  keeps-events i [] h = refl
  keeps-events i (x ∷ xs) h =
      all-append (keeps R) (announcement_rules i x.event) (flat_map (λ x. announcement_rules i x.event) xs)
      (keeps-event i x.event h.0)
      (keeps-events i xs h.1)

-- the closure lies in each set that has v, what its hosted members announce, and what is announced among its members
pub closure-in : (nodes : List HostedNode) (i v : ℕ) (entries : List Entry) (R : Names) → R v ≡ true
    → ((h : HostedNode) → Contains nodes h → R h.name ≡ true → within (names h.slices) R ≡ true) → AllIn R i entries
    → AreWithin (closure nodes i v entries) R
unfolding closure
closure-in nodes i v entries R start f h =
    let rules = map node_rule nodes ++ flat_map (λ x. announcement_rules i x.event) entries in
    least-in rules v R start
    (all-append (keeps R) (map node_rule nodes) (flat_map (λ x. announcement_rules i x.event) entries)
    (keeps-nodes R nodes f) (keeps-events R i entries h))

pub same_closures : SameClosures
same_closures one other runs others i v once once_there cast same u =
    same_test (S u) (R u) (fewer u) (more u)
  where
    R : Names
    R = closure one i v runs

    S : Names
    S = closure other i v others

    fewer : AreWithin S R
    fewer = closure-in other i v others R (closure-start one i v runs)
        (λ h c r. nodes-closed one i v runs h.name h.slices (cast.same h.name r ∙ once_there h c) r)
        (all_in-other R i runs others same (events-closed one i v runs))

    more : AreWithin R S
    more = closure-in one i v runs S (closure-start other i v others)
        (λ h c s. nodes-closed other i v others h.name h.slices (sym (cast.same h.name (fewer h.name s)) ∙ once h c) s)
        (all_kept-to R S i runs fewer (subst (AllByRecursion (IsKeptIn S)) (sym same)
        (all_kept-from R S i others (events-closed other i v others))))
