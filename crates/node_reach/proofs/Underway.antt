-- A sweep: what holds before it, at each of its steps and at its end; and how many names it can find.
use Rattle.std.proofs.Common.{◌≡◌, ◌≢◌, ℕ, ◌≤◌, Bool, true, false, not, ◌==◌, List, ◌∷◌, flat_map, length, Option, Some, None, refl, sym, ◌∙◌, ap, subst, inl, inr, arith, IsTrue}
use Rattle.std.specs.List.{list_any}
use Rattle.std.specs.Prelude.{AllPairs}
use Rattle.std.proofs.lemmas.Bool.{or_cases, or_left, or_right, and_from, and_parts, eqb-true, eq-eqb, false≢true}
use Rattle.std.proofs.Math.Path.{fun_ext}
use Rattle.std.proofs.lemmas.Bool.Decides.{Decides-eqb, nat_tests}
use Rattle.std.proofs.lemmas.Map.Made.{IsDistinct-from_AllPairs, length-le_from_is_member}
use Rattle.std.proofs.lemmas.Cmp.{nat_eq_equiv}
use Rattle.scp_types.specs.declared.kind.Kind.{Kind}
use Rattle.scp_types.specs.declared.kind.Kind.TheVariants.{Nomination}
use Rattle.scp_types.specs.Statements.{Sent, kind_of}
use Rattle.scp_types.specs.Trees.{Slices}
use Rattle.scp_spec.specs.Sets.{Names, among, AreWithin, IsAscending}
use Rattle.scp_spec.specs.Satisfaction.{names}
use Rattle.scp_spec.specs.Rows.{row, has_single_rows}
use Rattle.scp_spec.specs.Closures.{IsClosed}
use Rattle.scp_spec.specs.Reach.{rules_of, IsReach, Chain, HoldsReach}
use Rattle.scp_spec.specs.Reach.IsNamed.{in_configuration, in_row}
use Rattle.scp_spec.specs.Reach.Chain.{here, next}
use Rattle.scp_spec.proofs.Sets.Finite.{among_head, among_tail}
use Rattle.scp_spec.proofs.Sets.Least.{given_by_rule}
use Rattle.scp_spec.proofs.Sets.Derived.{derived-in}
use Rattle.scp_spec.proofs.Reach.Chains.{derived_chain, reach_is, names_held}
use Rattle.scp_spec.proofs.Statements.Found.{row_contained, row_found}
use Rattle.node_reach.specs.declared.search.Search.{Search}
use Rattle.node_reach.specs.Searching.{Finds, IsSearch, IsTakenFrom, done_in, found_in, has_mark, pending_in}
use Rattle.node_reach.specs.Sweeps.{just, names_in_row, names_in_rows_of}

-- between two steps: what was looked at names nothing that is not found, and a chain leads to all that is found
pub record IsUnderway (own : ℕ) (configured : Slices) (table : List Sent) (s : Search) : Type 0 where
  pub within : AreWithin (pending_in s) (found_in s)
  pub itself : IsTrue (found_in s own)
  pub configuration : AreWithin (among (names configured)) (found_in s)
  pub rows : (u : ℕ) → IsTrue (done_in s u) → AreWithin (names_in_rows_of table u) (found_in s)
  pub chains : (u : ℕ) → IsTrue (found_in s u) → Chain own configured table u

module _ (own : ℕ) (configured : Slices) (table : List Sent) where
  -- what is left out of account: a set is found, and so is all that was
  now_found : (s t : Search) (set : Names) → Finds s t set → AreWithin set (found_in t)
  now_found s t set a u h = a.found u ∙ or_left (set u) (found_in s u) h

  still_found : (s t : Search) (set : Names) → Finds s t set → AreWithin (found_in s) (found_in t)
  still_found s t set a u h = a.found u ∙ or_right (set u) (found_in s u) h

  pending_found : (s t : Search) (set : Names) → Finds s t set → AreWithin (pending_in s) (found_in s) → AreWithin (pending_in t) (found_in t)
  pending_found s t set a within u h = elim (or_cases (set u) (pending_in s u) (a.pending u h)) [
    | inl i ↦ now_found s t set a u i
    | inr i ↦ still_found s t set a u (within u i)
  ]

  -- ---- the start: the node itself and the names of its slices
  pub begins : (r s t : Search) (set : Names) → ((u : ℕ) → found_in r u ≡ false) → ((u : ℕ) → pending_in r u ≡ false) → Finds r s (just own) → Finds s t set
      → ((u : ℕ) → set u ≡ among (names configured) u) → IsUnderway own configured table t
  begins r s t set none idle a b is =
      let nothing : (u : ℕ) → found_in r u ≡ true → ⊥ = λ u h. false≢true (sym (none u) ∙ h) in
      record {
        within = pending_found s t set b (pending_found r s (just own) a (λ u h. absurd (false≢true (sym (idle u) ∙ h))));
        itself = still_found s t set b own (now_found r s (just own) a own (eq-eqb own own refl));
        configuration = λ u h. now_found s t set b u (is u ∙ h);
        rows = λ u h. absurd (nothing u (and_parts (found_in r u) (not (pending_in r u)) (a.done u (b.done u h))).0);
        chains = λ u h. elim (or_cases (set u) (found_in s u) (sym (b.found u) ∙ h)) [
          | inl i ↦ next here (in_configuration refl (sym (is u) ∙ i))
          | inr i ↦ elim (or_cases (own == u) (found_in r u) (sym (a.found u) ∙ i)) [
            | inl e ↦ subst (λ w. Chain own configured table w) (eqb-true own u e) here
            | inr e ↦ absurd (nothing u e)
          ]
        ];
      }

  -- ---- one step: a pending node is taken, and the names in its rows are found
  in_some_row : (u w : ℕ) (kind : Kind) (o : Option Sent) → row table u kind ≡ o → IsTrue (names_in_row o w) → Chain own configured table u → Chain own configured table w
  in_some_row u w kind None e h c = absurd (false≢true h)
  in_some_row u w kind (Some x) e h c = let r = row_contained table u kind x e in next c (in_row x r.0 r.1 h)

  follows : (u w : ℕ) → IsTrue (names_in_rows_of table u w) → Chain own configured table u → Chain own configured table w
  follows u w h c = elim (or_cases (names_in_row (row table u Kind.Ballot) w) (names_in_row (row table u Nomination) w) h) [
    | inl i ↦ in_some_row u w Kind.Ballot (row table u Kind.Ballot) refl i c
    | inr i ↦ in_some_row u w Nomination (row table u Nomination) refl i c
  ]

  pub goes_on : (s t r : Search) (u : ℕ) → IsUnderway own configured table s → IsTakenFrom s t u → Finds t r (names_in_rows_of table u) → IsUnderway own configured table r
  goes_on s t r u way taken noted =
      let still : AreWithin (found_in s) (found_in r) = λ w h. still_found t r (names_in_rows_of table u) noted w (taken.found w ∙ h) in
      record {
        within = pending_found t r (names_in_rows_of table u) noted (λ w h. taken.found w ∙ way.within w (taken.others w h));
        itself = still own way.itself;
        configuration = λ w h. still w (way.configuration w h);
        rows = λ w h. elim (or_cases (u == w) (done_in s w) (taken.done w (noted.done w h))) [
          | inl e ↦ λ x i. now_found t r (names_in_rows_of table u) noted x (subst (λ v. IsTrue (names_in_rows_of table v x)) (sym (eqb-true u w e)) i)
          | inr d ↦ λ x i. still x (way.rows w d x i)
        ];
        chains = λ w h. elim (or_cases (names_in_rows_of table u w) (found_in t w) (sym (noted.found w) ∙ h)) [
          | inl i ↦ follows u w i (way.chains u (way.within u taken.pending))
          | inr i ↦ way.chains w (sym (taken.found w) ∙ i)
        ];
      }

  -- ---- the end: nothing is pending
  pub in_one_row : (e : Sent) (kind : Kind) (w : ℕ) → row table e.sender kind ≡ Some e → IsTrue (among (names e.slices) w) → IsTrue (names_in_rows_of table e.sender w)
  in_one_row e Nomination w h i = or_right (names_in_row (row table e.sender Kind.Ballot) w) (names_in_row (row table e.sender Nomination) w) (rw h i)
  in_one_row e Kind.Ballot w h i = or_left (names_in_row (row table e.sender Kind.Ballot) w) (names_in_row (row table e.sender Nomination) w) (rw h i)

  holds_all : (s : Search) → IsUnderway own configured table s → ((u : ℕ) → pending_in s u ≡ false) → has_single_rows table ≡ true → HoldsReach own configured table (found_in s)
  holds_all s way over single = record {
    itself = way.itself;
    configuration = way.configuration;
    rows = λ e c h w i. way.rows e.sender (and_from (found_in s e.sender) (not (pending_in s e.sender)) h (ap not (over e.sender))) w
        (in_one_row e (kind_of e.body) w (row_found table e single c) i);
  }

  -- what was found is the reach, in order
  pub is_reach : (s : Search) (all : List ℕ) → IsUnderway own configured table s → ((u : ℕ) → pending_in s u ≡ false) → has_single_rows table ≡ true
      → IsAscending all → ((u : ℕ) → among all u ≡ found_in s u) → IsReach own configured table all
  is_reach s all way over single up are =
      let same : among all ≡ found_in s = fun_ext are in
      let held : HoldsReach own configured table (among all) = subst (λ (set : Names). HoldsReach own configured table set) (sym same) (holds_all s way over single) in
      record {
        ascending = up;
        exactly = λ u. ap (λ (set : Names). set u) (reach_is own configured table (among all) held (λ w h. way.chains w (sym (are w) ∙ h)));
        closed = names_held own configured table (among all) held;
      }

  -- ---- how many names can be found: no more than there are in all
  pub all_named : List ℕ
  all_named = own ∷ flat_map (λ r. r.gives) (rules_of own configured table)

-- a list has a name, as two definitions write it
member_is : (xs : List ℕ) (q : ℕ) → list_any (λ x. q == x) xs ≡ among xs q
member_is xs q = ap (λ (test : ℕ → Bool). list_any test xs) (fun_ext (λ x. flips x))
  where
    flips : (x : ℕ) → (q == x) ≡ (x == q)
    flips x = grind (arith, nat_tests)

-- an ascending list is no longer than a list that has all its names
pub no_longer : (xs ys : List ℕ) → IsAscending xs → AreWithin (among xs) (among ys) → length xs ≤ length ys
no_longer xs ys up within =
    let apart : AllPairs (λ x y. x ≢ y) xs = λ i j d l h e. absurd (let q = up i j d l h in omega arith) in
    length-le_from_is_member nat_eq_equiv xs ys (IsDistinct-from_AllPairs Decides-eqb xs apart) (λ q h. member_is ys q ∙ within q (sym (member_is xs q) ∙ h))

pub found_bound : (own : ℕ) (configured : Slices) (table : List Sent) (s : Search) → IsSearch s → IsUnderway own configured table s → length s.others.found ≤ length (all_named own configured table)
unfolding all_named
found_bound own configured table s are way =
    let given_names = flat_map (λ r. r.gives) (rules_of own configured table) in
    let closed : IsClosed (rules_of own configured table) own (among (own ∷ given_names)) = record {
      start = among_head own given_names;
      each = λ r c w u g. among_tail own u given_names (given_by_rule (rules_of own configured table) r u c g);
    } in
    no_longer s.others.found (own ∷ given_names) are.ascending
    (λ u h. derived-in (rules_of own configured table) own (among (own ∷ given_names)) closed (derived_chain own configured table (way.chains u (or_right (has_mark s.known.nodes.now s.marks.items u) (among s.others.found u) h))))
