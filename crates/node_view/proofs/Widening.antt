-- A nomination that comes in the place of another one has all its values: so the values that the others' nominations speak of only grow.
use Rattle.std.proofs.Common.{◌≡◌, ℕ, ◌↔◌, Bool, true, false, List, [], ◌∷◌, ◌++◌, Option, Some, None, flat_map, IfSome, if◌then◌else◌, sym, ◌∙◌, ap, subst, inl, inr}
use Rattle.std.specs.List.{Contains, list_all}
use Rattle.std.proofs.lemmas.Bool.{and_parts, or_cases, false≢true}
use Rattle.std.proofs.lemmas.List.Elements.{Contains-append_cases, Contains-append_left, Contains-append_right}
use Rattle.scp_types.specs.declared.kind.Kind.{Kind}
use Rattle.scp_types.specs.declared.kind.Kind.TheVariants.{Nomination}
use Rattle.scp_types.specs.declared.statement.Statement.{Statement}
use Rattle.scp_types.specs.declared.statement.Statement.TheVariants.{Nominate, Prepare, Commit, Externalize}
use Rattle.scp_types.specs.Statements.{Sent, kind_of}
use Rattle.scp_types.specs.Votes.{has_value, same_value}
use Rattle.scp_spec.specs.Candidates.{all_with, values_by}
use Rattle.scp_spec.specs.Newer.{is_newer}
use Rattle.scp_spec.specs.Newer as Newer
use Rattle.scp_spec.specs.Rows.{is_taken, replaces, row, with_row}
use Rattle.scp_spec.proofs.Equality.Sameness.{same_value-true}
use Rattle.scp_spec.proofs.Nominating.ValueSets.{all_with_append}
use Rattle.scp_spec.proofs.Statements.Offers.{same_kind}
use Rattle.node_view.specs.Knowing.{AreValuesOf, IsTaken, is_heard}
use Rattle.node_view.specs.Watching.{rows_of_others, said_by_another, values_in}
use Rattle.node_view.specs.declared.reached_values.ReachedValues.{ReachedValues}
use Rattle.node_view.proofs.GroupLaws.{none_stirred}
use Rattle.node_view.proofs.Following.{came, parts, said_alike, stands, stays}
use Rattle.node_view.proofs.SameRows.{given_from, given_to, has_from, has_to, none_contained, same_set, same_values}

-- ---- a newer nomination
all_had : (those these : List (List ℕ)) (z : List ℕ) → Newer.has_all those these ≡ true → has_value these z ≡ true → has_value those z ≡ true
all_had those [] z all has = absurd (false≢true has)
all_had those (x ∷ xs) z all has =
    let p = and_parts (has_value those x) (list_all (λ y. has_value those y) xs) all in
    elim (or_cases (same_value x z) (has_value xs z) has) [
      | inl e ↦ subst (λ y. has_value those y ≡ true) (same_value-true x z e) p.0
      | inr e ↦ all_had those xs z p.1 e
    ]

had : (those these : List (List ℕ)) (z : List ℕ) → Newer.has_all those these ≡ true → Contains these z → Contains those z
had those these z all c = has_from those z (all_had those these z all (has_to these z c))

newer_has : (new old : Statement) → is_newer new old ≡ true → (z : List ℕ) → Contains (values_by old) z → Contains (values_by new) z
newer_has (Nominate voted accepted) (Nominate v a) newer z c =
    let p = and_parts (Newer.has_all voted v) _ newer in
    let q = and_parts (Newer.has_all accepted a) _ p.1 in
    elim (Contains-append_cases v a z c) [
      | inl i ↦ Contains-append_left voted accepted z (had voted v z p.0 i)
      | inr i ↦ Contains-append_right voted accepted z (had accepted a z q.0 i)
    ]
newer_has (Prepare b p x h k) (Nominate v a) newer z c = absurd (false≢true newer)
newer_has (Commit b p h k) (Nominate v a) newer z c = absurd (false≢true newer)
newer_has (Externalize k h) (Nominate v a) newer z c = absurd (false≢true newer)
newer_has new (Prepare b p x h k) newer z c = absurd (none_contained z c)
newer_has new (Commit b p h k) newer z c = absurd (none_contained z c)
newer_has new (Externalize k h) newer z c = absurd (none_contained z c)

-- ---- the values of the others' nominations once such a row came
module _ (own : ℕ) (nodes : List ℕ) (old : List Sent) (e : Sent) (heard : is_heard Nomination own nodes e ≡ true) (newer : is_taken old e ≡ true) where
  abbrev pub before : List Statement
  before = rows_of_others own Nomination old nodes

  abbrev pub after : List Statement
  after = rows_of_others own Nomination (with_row e old) nodes

  -- what the sender said before is among them
  widened : (s : Statement) → said_by_another own (row old e.sender Nomination) ≡ Some s → (z : List ℕ) → Contains (values_by s) z → Contains (values_by e.body) z
  unfolding is_taken
  widened s said z c = go (row old e.sender Nomination) said (ap (λ (k : Kind). replaces e (row old e.sender k)) (same_kind Nomination (kind_of e.body) (parts Nomination own nodes old e heard).0) ∙ newer)
    where
      of_row : (x : Sent) (b : Bool) → (if b then None else Some x.body) ≡ Some s → is_newer e.body x.body ≡ true → Contains (values_by e.body) z
      of_row x true is n = cc
      of_row x false is n = let same : x.body ≡ s = cc in newer_has e.body x.body n z (subst (λ (t : Statement). Contains (values_by t) z) (sym same) c)

      go : (o : Option Sent) → said_by_another own o ≡ Some s → replaces e o ≡ true → Contains (values_by e.body) z
      go None is n = cc
      go (Some x) is n = of_row x _ is n

  pub grown : all_with (values_by e.body) (values_in before) ≡ values_in after
  grown = sym (all_with_append (values_by e.body) (flat_map values_by before) []) ∙ same_set (values_by e.body ++ flat_map values_by before) (flat_map values_by after) same
    where
      over : (z : List ℕ) → Contains (values_by e.body ++ flat_map values_by before) z → Contains (flat_map values_by after) z
      over z c = elim (Contains-append_cases (values_by e.body) (flat_map values_by before) z c) [
        | inl i ↦ given_to values_by after e.body z (stands Nomination own nodes old e heard) i
        | inr i ↦
            let r = given_from values_by before z i in
            elim (stays Nomination own nodes old e heard r.0 r.1) [
              | inl q ↦ given_to values_by after e.body z (stands Nomination own nodes old e heard) (widened r.0 q z r.2)
              | inr k ↦ given_to values_by after r.0 z k r.2
            ]
      ]

      back : (z : List ℕ) → Contains (flat_map values_by after) z → Contains (values_by e.body ++ flat_map values_by before) z
      back z c =
          let r = given_from values_by after z c in
          elim (came Nomination own nodes old e heard r.0 r.1) [
            | inl q ↦ Contains-append_left (values_by e.body) (flat_map values_by before) z (subst (λ (s : Statement). Contains (values_by s) z) (sym q) r.2)
            | inr i ↦ Contains-append_right (values_by e.body) (flat_map values_by before) z (given_to values_by before r.0 z i r.2)
          ]

      same : (z : List ℕ) → Contains (values_by e.body ++ flat_map values_by before) z ↔ Contains (flat_map values_by after) z
      same z = (over z, back z)

-- as a table takes it
pub heard_values : (own : ℕ) (nodes : List ℕ) (old new : List Sent) (e : Sent) (row : Option Sent) → is_heard Nomination own nodes e ≡ true → IsTaken old new e row
    → all_with (values_by e.body) (values_in (rows_of_others own Nomination old nodes)) ≡ values_in (rows_of_others own Nomination new nodes)
heard_values own nodes old new e row heard taken =
    grown own nodes old e heard taken.newer ∙ ap (λ (t : List Sent). values_in (rows_of_others own Nomination t nodes)) (sym taken.now)

-- a row of ballots, of the node itself or of a stranger leaves them
pub unheard_values : (own : ℕ) (nodes : List ℕ) (old new : List Sent) (e : Sent) → is_heard Nomination own nodes e ≡ false → new ≡ with_row e old
    → (o : Option ReachedValues) → IfSome o (λ v. AreValuesOf own old nodes v) → IfSome o (λ v. AreValuesOf own new nodes v)
unheard_values own nodes old new e unheard is None are = tt
unheard_values own nodes old new e unheard is (Some v) are = subst (λ (t : List Sent). AreValuesOf own t nodes v) (sym is) record {
  values = are.values ∙ same_values _ _ (said_alike Nomination own nodes old e unheard);
  alike = none_stirred own nodes Nomination old e unheard v.alike are.alike;
}
