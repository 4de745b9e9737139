-- The rows that a look-up of each reached node finds are those that the node sees.
use Rattle.std.proofs.Common.{◌≡◌, ℕ, Bool, true, false, not, ◌&&◌, ◌==◌, List, [], ◌∷◌, Option, Some, None, filter, map, if◌then◌else◌, refl, sym, ◌∙◌, ap, subst, inl, inr}
use Rattle.std.specs.List.{Contains}
use Rattle.std.proofs.lemmas.Bool.{cases_Bool, or_cases, or_left, or_right, and_parts, and_from, eqb-true, eq-eqb, false≢true, not-true}
use Rattle.scp_types.specs.Trees.{Slices}
use Rattle.scp_types.specs.declared.kind.Kind.{Kind}
use Rattle.scp_types.specs.declared.statement.Statement.{Statement}
use Rattle.scp_types.specs.Statements.{Sent, kind_of}
use Rattle.scp_spec.specs.Sets.{among}
use Rattle.scp_spec.specs.Reach.{reach_of}
use Rattle.scp_spec.specs.Rows.{row, is_kind, is_row_of, has_single_rows}
use Rattle.scp_spec.specs.Views.{others_reached, rows_seen, seen}
use Rattle.scp_spec.proofs.Sets.Contained.{contained_cases, contains_head, contains_tail}
use Rattle.scp_spec.proofs.Sets.Mapped.{mapped_from, mapped_to}
use Rattle.scp_spec.proofs.Statements.Found.{row_contained, row_found}
use Rattle.scp_spec.proofs.Statements.Offers.{is_kind-itself, is_row_of-parts, same_kind}
use Rattle.node_view.specs.Watching.{RowsOfNodes, rows_of_others, said_by_another}
use Rattle.node_view.proofs.SameRows.{AreSame, none_contained, found_from, found_to, kept_from, kept_to}
use Rattle.node_view.proofs.Sightings.{seen_rows}

pub among_from : (us : List ℕ) (u : ℕ) → Contains us u → among us u ≡ true
among_from [] u c = absurd (none_contained u c)
among_from (v ∷ us) u c = elim (contained_cases u v us c) [
  | inl q ↦ or_left (v == u) (among us u) (eq-eqb v u q)
  | inr i ↦ or_right (v == u) (among us u) (among_from us u i)
]

pub among_to : (us : List ℕ) (u : ℕ) → among us u ≡ true → Contains us u
among_to [] u h = absurd (false≢true h)
among_to (v ∷ us) u h = elim (or_cases (v == u) (among us u) h) [
  | inl e ↦ subst (λ w. Contains (v ∷ us) w) (eqb-true v u e) (contains_head v us)
  | inr e ↦ contains_tail u v us (among_to us u e)
]

-- a row that is found is of that sender and kind
pub row_is : (table : List Sent) (u : ℕ) (k : Kind) (e : Sent) → row table u k ≡ Some e → is_row_of u k e ≡ true
unfolding row
row_is [] u k e h = cc
row_is (x ∷ xs) u k e h = elim (cases_Bool (is_row_of u k x)) [
  | inl i ↦ let q : x ≡ e = (let r = rw i at h in cc) in subst (λ z. is_row_of u k z ≡ true) q i
  | inr o ↦ row_is xs u k e (rw o at h)
]

-- what another says comes from its row
pub said_from : (own : ℕ) (o : Option Sent) (s : Statement) → said_by_another own o ≡ Some s → (e : Sent) × (o ≡ Some e) × ((own == e.sender) ≡ false) × (e.body ≡ s)
said_from own None s h = cc
said_from own (Some e) s h = go (own == e.sender) refl h
  where
    go : (b : Bool) → (own == e.sender) ≡ b → (if b then None else Some e.body) ≡ Some s → (x : Sent) × (Some e ≡ Some x) × ((own == x.sender) ≡ false) × (x.body ≡ s)
    go true i h = cc
    go false i h = (e, refl, i, cc)

said_to : (own : ℕ) (e : Sent) (o : Option Sent) → o ≡ Some e → (own == e.sender) ≡ false → said_by_another own o ≡ Some e.body
said_to own e o is other = ap (said_by_another own) is ∙ ap (λ b. if b then None else Some e.body) other

module _ (own : ℕ) (q : Slices) (table : List Sent) (reach : List ℕ) (exactly : (u : ℕ) → among reach u ≡ reach_of own q table u) (single : has_single_rows table ≡ true) where
  same_rows : (k : Kind) → AreSame (rows_of_others own k table reach) (rows_seen own q table k)
  unfolding rows_seen
  same_rows k s = (λ c. over c, λ c. back c)
    where
      is_seen : Sent → Bool
      is_seen e = is_kind k (kind_of e.body) && others_reached own q table e.sender

      found : ℕ → Option Statement
      found u = said_by_another own (row table u k)

      over : Contains (rows_of_others own k table reach) s → Contains (map (λ (e : Sent). e.body) (filter is_seen table)) s
      over c =
          let f = found_from found reach s c in
          let b = said_from own (row table f.0 k) s f.2 in
          let e = b.0 in
          let r = row_contained table f.0 k e b.1 in
          let p = is_row_of-parts f.0 k e (row_is table f.0 k e b.1) in
          let kind : is_kind k (kind_of e.body) ≡ true = subst (λ j. is_kind k j ≡ true) (sym p.1) (is_kind-itself k) in
          let in_reach : reach_of own q table e.sender ≡ true = subst (λ u. reach_of own q table u ≡ true) (sym p.0) (sym (exactly f.0) ∙ among_from reach f.0 f.1) in
          let other : others_reached own q table e.sender ≡ true = and_from (not (own == e.sender)) (reach_of own q table e.sender) (ap not b.2) in_reach in
          subst (λ t. Contains (map (λ (x : Sent). x.body) (filter is_seen table)) t) b.3
          (mapped_to (λ (x : Sent). x.body) (filter is_seen table) e
          (kept_to is_seen table e r.0 (and_from (is_kind k (kind_of e.body)) (others_reached own q table e.sender) kind other)))

      back : Contains (map (λ (e : Sent). e.body) (filter is_seen table)) s → Contains (rows_of_others own k table reach) s
      back c =
          let m = mapped_from (λ (e : Sent). e.body) (filter is_seen table) s c in
          let f = kept_from is_seen table m.0 m.1 in
          let p = and_parts (is_kind k (kind_of m.0.body)) (others_reached own q table m.0.sender) f.1 in
          let o = and_parts (not (own == m.0.sender)) (reach_of own q table m.0.sender) p.1 in
          let at : row table m.0.sender k ≡ Some m.0 = subst (λ j. row table m.0.sender j ≡ Some m.0) (sym (same_kind k (kind_of m.0.body) p.0)) (row_found table m.0 single f.0) in
          found_to found reach m.0.sender s (among_to reach m.0.sender (exactly m.0.sender ∙ o.1)) (said_to own m.0 (row table m.0.sender k) at (not-true (own == m.0.sender) o.0) ∙ ap Some m.2)

  -- what finds the same in rows that are the same finds in those that are looked up what it finds in those that are seen
  pub found_in : {A : Type 0} (leaders : List ℕ) (k : Kind) (rows : RowsOfNodes) → rows ≡ record { nodes = reach; table = table; kind = k }
      → (search_in : List Statement → A) → ((ss ts : List Statement) → AreSame ss ts → search_in ss ≡ search_in ts)
      → search_in (rows_of_others own rows.kind rows.table rows.nodes) ≡ search_in ((seen own q leaders table).rows k)
  found_in leaders k rows are search_in same =
      ap (λ (r : RowsOfNodes). search_in (rows_of_others own r.kind r.table r.nodes)) are
      ∙ same _ _ (same_rows k)
      ∙ ap search_in (sym (seen_rows own q leaders table k))
