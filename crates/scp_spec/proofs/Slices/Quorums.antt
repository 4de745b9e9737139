-- The test of a quorum is its existence, and a quorum cut to a region that holds its members' names is one. The laws
-- `nested_quorum_cut`, `quorum_cut` and `quorums_are_found`, `Balloting`, `Nodes`, `Passes`, and the crates `scp_bits`,
-- `scp_voting`, `scp_slices` and `node_view` stand on it.
use Rattle.std.proofs.Common.{◌≡◌, ℕ, Bool, true, not, ◌&&◌, ◌||◌, Option, Some, None, List, refl, sym, ◌∙◌, subst, inl, inr, IsTrue}
use Rattle.std.specs.List.{list_all}
use Rattle.std.proofs.lemmas.Bool.{cases_Bool, or_cases, and_parts, and_from, or_left, or_right, true≢false, false≢true, not-true, not_from_false}
use Rattle.scp_types.specs.Trees.{Slices}
use Rattle.scp_spec.specs.Sets.{Names, among, both, AreWithin}
use Rattle.scp_spec.specs.Satisfaction.{sat, names}
use Rattle.scp_spec.specs.Quorums.{is_satisfied, Quorum, HasQuorum, has_quorum, Lists, QuorumsAreFound, cut_to, HoldsNamesOf, NamesWithin, IsMonotone, IsLocal, LocalCutsAreQuorums, NestedCutsAreQuorums}
use Rattle.scp_spec.proofs.Sets.Finite.{all_at, all_from, some_set-found, some_set-from}
use Rattle.scp_spec.proofs.Slices.Satisfaction.{sat_monotone, sat_local}
use Rattle.scp_spec.proofs.Sets.Tests.{and_is}

module _ {Q : Type 0} (sat : Q → Names → Bool) (slices_at : ℕ → Option Q) where
  -- the test of one set: each of its nodes supports, and has slices that it satisfies
  abbrev stands : Names → Names → ℕ → Bool
  stands supporters set u = not (set u) || (supporters u && is_satisfied sat (slices_at u) set)

  pub is_satisfied-more : IsMonotone sat → (o : Option Q) (a b : Names) → AreWithin a b → IsTrue (is_satisfied sat o a)
      → IsTrue (is_satisfied sat o b)
  is_satisfied-more monotone None a b h s = s
  is_satisfied-more monotone (Some q) a b h s = monotone q a b h s

  listed : (all : List ℕ) → Lists all slices_at → (u : ℕ) (set : Names) (o : Option Q) → slices_at u ≡ o
      → IsTrue (is_satisfied sat o set) → IsTrue (among all u)
  listed all lists u set None e s = absurd (false≢true s)
  listed all lists u set (Some q) e s = lists u q e

  -- a quorum that exists is found, where every node that has slices is listed
  pub has_quorum-from : IsMonotone sat → (all : List ℕ) (supporters : Names) (node : ℕ) → Lists all slices_at
      → HasQuorum sat slices_at supporters node → IsTrue (has_quorum sat slices_at all supporters node)
  unfolding has_quorum
  has_quorum-from monotone all supporters node lists h =
      let set = both (among all) h.set in
      let inside : (u : ℕ) → h.set u ≡ true → set u ≡ true =
      λ u i. and_from (among all u) (h.set u) (listed all lists u h.set (slices_at u) refl (h.quorum.each u i)) i in
      some_set-from all (λ U. U node && list_all (stands supporters U) all) h.set
      (and_from (set node) (list_all (stands supporters set) all) (inside node h.member)
      (all_from (stands supporters set) all (λ u i. elim (cases_Bool (set u)) [
        | inl e ↦ let j = (and_parts (among all u) (h.set u) e).1 in
            or_right (not (set u)) (supporters u && is_satisfied sat (slices_at u) set)
            (and_from (supporters u) (is_satisfied sat (slices_at u) set) (h.within u j)
            (is_satisfied-more monotone (slices_at u) h.set set inside (h.quorum.each u j)))
        | inr e ↦ or_left (not (set u)) (supporters u && is_satisfied sat (slices_at u) set) (not_from_false _ e)
      ])))

  -- what is found is a quorum
  pub has_quorum-found : (all : List ℕ) (supporters : Names) (node : ℕ)
      → IsTrue (has_quorum sat slices_at all supporters node) → HasQuorum sat slices_at supporters node
  unfolding has_quorum
  has_quorum-found all supporters node h =
      let r = some_set-found all (λ U. U node && list_all (stands supporters U) all) h in
      let set = r.0 in
      let p = and_parts (set node) (list_all (stands supporters set) all) r.1 in
      let at : (u : ℕ) → set u ≡ true → (supporters u && is_satisfied sat (slices_at u) set) ≡ true = λ u i.
      elim (or_cases (not (set u)) (supporters u && is_satisfied sat (slices_at u) set)
      (all_at (stands supporters set) all u p.1 (r.2 u i))) [
        | inl n ↦ absurd (true≢false (sym i ∙ not-true _ n))
        | inr m ↦ m
      ] in
      record {
        set = set;
        quorum = record {
          some = (node, p.0);
          each = λ u i. (and_parts (supporters u) (is_satisfied sat (slices_at u) set) (at u i)).1;
        };
        within = λ u i. (and_parts (supporters u) (is_satisfied sat (slices_at u) set) (at u i)).0;
        member = p.0;
      }

module _ {Q : Type 0} (sat : Q → Names → Bool) (names : Q → List ℕ) (slices_at : ℕ → Option Q) where
  still_satisfied : IsLocal sat names → (set region : Names) (o : Option Q)
      → ((q : Q) → o ≡ Some q → AreWithin (among (names q)) region) → IsTrue (is_satisfied sat o set)
      → IsTrue (is_satisfied sat o (cut_to region set))
  still_satisfied local set region None named s = s
  still_satisfied local set region (Some q) named s =
      local q (cut_to region set) set (λ u c. and_is (region u) (set u) (named q refl u c)) ∙ s

  -- a quorum, cut to a set that contains the names of its members' slices, is a quorum as soon as one name is left
  pub cut_quorum : IsLocal sat names → (set region : Names) → Quorum sat slices_at set
      → HoldsNamesOf names slices_at (cut_to region set) region → (u : ℕ) → IsTrue (cut_to region set u)
      → Quorum sat slices_at (cut_to region set)
  cut_quorum local set region quorum named u h = record {
    some = (u, h);
    each = λ w i. still_satisfied local set region (slices_at w) (λ q e. named w q i e)
        (quorum.each w (and_parts (region w) (set w) i).1);
  }

  -- so a quorum within all supporters is found within the region
  pub cut_answer : IsLocal sat names → (supporters region : Names) → NamesWithin names slices_at region → (node : ℕ)
      → IsTrue (region node) → HasQuorum sat slices_at supporters node
      → HasQuorum sat slices_at (cut_to region supporters) node
  cut_answer local supporters region named node inside h =
      let member = and_from (region node) (h.set node) inside h.member in
      record {
        set = cut_to region h.set;
        quorum = cut_quorum local h.set region h.quorum
            (λ u q i e. named u q (and_parts (region u) (h.set u) i).0 e) node member;
        within =
            λ u k. let p = and_parts (region u) (h.set u) k in and_from (region u) (supporters u) p.0 (h.within u p.1);
        member = member;
      }

  -- and two sides that agree within the region have a quorum both or neither
  pub quorum_agree : IsLocal sat names → (other_at : ℕ → Option Q) (one other region : Names)
      → NamesWithin names slices_at region
      → ((u : ℕ) → IsTrue (region u) → slices_at u ≡ other_at u) → ((u : ℕ) → IsTrue (region u) → one u ≡ other u)
      → (node : ℕ) → IsTrue (region node) → HasQuorum sat slices_at one node → HasQuorum sat other_at other node
  quorum_agree local other_at one other region named same_slices same_nodes node inside h =
      let c = cut_answer local one region named node inside h in
      record {
        set = c.set;
        quorum = record {
          some = c.quorum.some;
          each = λ u i. subst (λ o. IsTrue (is_satisfied sat o c.set))
              (same_slices u (and_parts (region u) (one u) (c.within u i)).0) (c.quorum.each u i);
        };
        within = λ u i. let p = and_parts (region u) (one u) (c.within u i) in sym (same_nodes u p.0) ∙ p.1;
        member = c.member;
      }

pub quorums_found : QuorumsAreFound
quorums_found slices_at all supporters node lists = (
  has_quorum-found sat slices_at all supporters node,
  has_quorum-from sat slices_at sat_monotone all supporters node lists,
)

pub cuts : (Q : Type 0) → LocalCutsAreQuorums Q
cuts Q satisfies names local slices_at set region quorum named u h =
    cut_quorum satisfies names slices_at local set region quorum named u h

pub nested_cut : NestedCutsAreQuorums
nested_cut = cuts Slices sat names sat_local
