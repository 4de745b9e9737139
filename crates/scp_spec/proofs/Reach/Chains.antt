-- The reach of a node: the least set, the end of chains, and a region that holds its members' names. The laws
-- `reach_follows_chains`, `reach_holds_names` and `reach_is_least`, `Nodes`, and the crates `host_closure`,
-- `scp_voting`, `line_table` and `node_view` stand on it.
use Rattle.std.proofs.Common.{◌≡◌, ℕ, true, false, ◌==◌, List, [], ◌∷◌, map, refl, sym, ◌∙◌, subst, inl, inr, IsTrue, ◌↔◌}
use Rattle.std.proofs.lemmas.Bool.{cases_Bool, or_cases, eqb-true, false≢true}
use Rattle.scp_types.specs.Trees.{Slices}
use Rattle.scp_types.specs.declared.kind.Kind.{Kind}
use Rattle.scp_types.specs.Statements.{Sent}
use Rattle.scp_spec.specs.Sets.{Names, among, AreWithin}
use Rattle.scp_spec.specs.Satisfaction.{names}
use Rattle.scp_spec.specs.Quorums.{NamesWithin}
use Rattle.scp_spec.specs.Rows.{row}
use Rattle.scp_spec.specs.Backing.{slices_by}
use Rattle.scp_spec.specs.Closures.{Rule, in_least, Derived, IsClosed}
use Rattle.scp_spec.specs.Closures.Derived.{start, given}
use Rattle.scp_spec.specs.Reach.{rule_of, rules_of, reach_of, Chain, HoldsReach, ReachIsLeast, ReachFollowsChains, ReachHoldsNames}
use Rattle.scp_spec.specs.Reach.IsNamed.{in_configuration, in_row}
use Rattle.scp_spec.specs.Reach.Chain.{here, next}
use Rattle.scp_spec.proofs.Sets.Finite.{among_head}
use Rattle.scp_spec.proofs.Sets.Contained.{contains_head, contains_tail, contained_cases}
use Rattle.scp_spec.proofs.Sets.Least.{in_least-in, in_least-closed}
use Rattle.scp_spec.proofs.Sets.Derived.{closures_derived, least_is}
use Rattle.scp_spec.proofs.Sets.Mapped.{mapped_from, mapped_to}
use Rattle.scp_spec.proofs.Statements.Found.{row_contained, slices_of_row}

only : (x u : ℕ) → among (x ∷ []) u ≡ true → x ≡ u
only x u h = elim (or_cases (x == u) false h) [ inl e ↦ eqb-true x u e | inr e ↦ absurd (false≢true e) ]

-- what an equal rule reads and gives
is_source : (r s : Rule) (u : ℕ) → r ≡ s → among r.sources u ≡ true → among s.sources u ≡ true
is_source r s u e h = subst (λ (x : Rule). among x.sources u ≡ true) e h

is_given : (r s : Rule) (u : ℕ) → r ≡ s → among s.gives u ≡ true → among r.gives u ≡ true
is_given r s u e h = subst (λ (x : Rule). among x.gives u ≡ true) (sym e) h

module _ (own : ℕ) (configured : Slices) (table : List Sent) where
  abbrev own_rule : Rule
  own_rule = record { sources = own ∷ []; gives = names configured }

  -- a set is closed by the rules exactly when it holds what the words say
  pub closed_from : (set : Names) → HoldsReach own configured table set
      → IsClosed (rules_of own configured table) own set
  closed_from set h = record {
    start = h.itself;
    each = λ r c w u g. elim (contained_cases r own_rule (map rule_of table) c) [
      | inl e ↦ h.configuration u (is_given own_rule r u e g)
      | inr i ↦ let m = mapped_from rule_of table r i in
          h.rows m.0 m.1 (w m.0.sender (is_source (rule_of m.0) r m.0.sender m.2 (among_head m.0.sender []))) u
          (is_given (rule_of m.0) r u m.2 g)
    ];
  }

  pub closed_to : (set : Names) → IsClosed (rules_of own configured table) own set → HoldsReach own configured table set
  closed_to set c = record {
    itself = c.start;
    configuration =
        c.each own_rule (contains_head own_rule (map rule_of table))
        (λ u m. subst (λ w. IsTrue (set w)) (only own u m) c.start);
    rows = λ e i s. c.each (rule_of e)
        (contains_tail (rule_of e) own_rule (map rule_of table) (mapped_to rule_of table e i))
        (λ u m. subst (λ w. IsTrue (set w)) (only e.sender u m) s);
  }

  pub reached-in : (set : Names) → HoldsReach own configured table set → AreWithin (reach_of own configured table) set
  unfolding reach_of
  reached-in set h = in_least-in (rules_of own configured table) own set (closed_from set h)

  pub reached-holds : HoldsReach own configured table (reach_of own configured table)
  unfolding reach_of
  reached-holds =
      closed_to (in_least (rules_of own configured table) own) (in_least-closed (rules_of own configured table) own)

  -- ---- chains are derivations
  pub derived_chain : {u : ℕ} → Chain own configured table u → Derived (rules_of own configured table) own u
  derived_chain here = start
  derived_chain (next {by} {u} c (in_configuration e n)) =
      given own_rule (contains_head own_rule (map rule_of table))
      (λ w m. subst (λ x. Derived (rules_of own configured table) own x) (sym e ∙ only own w m) (derived_chain c)) n
  derived_chain (next {by} {u} c (in_row x i e n)) =
      given (rule_of x) (contains_tail (rule_of x) own_rule (map rule_of table) (mapped_to rule_of table x i))
      (λ w m. subst (λ y. Derived (rules_of own configured table) own y) (sym e ∙ only x.sender w m)
      (derived_chain c)) n

  pub chain_derived : {u : ℕ} → Derived (rules_of own configured table) own u → Chain own configured table u
  chain_derived start = here
  chain_derived (given r {u} c f g) = elim (contained_cases r own_rule (map rule_of table) c) [
    | inl e ↦ next (chain_derived (f own (is_source own_rule r own e (among_head own []))))
        (in_configuration refl (is_given own_rule r u e g))
    | inr i ↦ let m = mapped_from rule_of table r i in
        next (chain_derived (f m.0.sender (is_source (rule_of m.0) r m.0.sender m.2 (among_head m.0.sender []))))
        (in_row m.0 m.1 refl (is_given (rule_of m.0) r u m.2 g))
  ]

  pub reached_chain : (u : ℕ) → IsTrue (reach_of own configured table u) ↔ Chain own configured table u
  unfolding reach_of
  reached_chain u = let d = closures_derived (rules_of own configured table) own u in
      (λ h. chain_derived (d.0 h), λ c. d.1 (derived_chain c))

  -- A set that holds what the words say, and to each member of which a chain leads, is the reach: what a sweep has to
  -- show.
  pub reach_is : (set : Names) → HoldsReach own configured table set
      → ((u : ℕ) → set u ≡ true → Chain own configured table u) → set ≡ reach_of own configured table
  unfolding reach_of
  reach_is set h d = least_is (rules_of own configured table) own set (closed_from set h) (λ u s. derived_chain (d u s))

-- a set that holds the reach holds the names of its members' slices
pub names_held : (own : ℕ) (configured : Slices) (table : List Sent) (set : Names) → HoldsReach own configured table set
    → (kind : Kind) → NamesWithin names (slices_by own configured table kind) set
names_held own configured table set h kind u q s e = elim (cases_Bool (own == u)) [
  | inl i ↦ let same : configured ≡ q = (let r = rw i at e in cc) in λ w n. h.configuration w (rw same n)
  | inr o ↦ let r = slices_of_row (row table u kind) q (rw o at e) in
      let c = row_contained table u kind r.0 r.1 in
      λ w n. h.rows r.0 c.0 (rw c.1 s) w (rw r.2 n)
]

pub reach_least : ReachIsLeast
reach_least own configured table =
    record { holds = reached-holds own configured table; least = reached-in own configured table }

pub reach_chains : ReachFollowsChains
reach_chains = reached_chain

pub reach_names : ReachHoldsNames
reach_names own configured table kind =
    names_held own configured table (reach_of own configured table) (reached-holds own configured table) kind
