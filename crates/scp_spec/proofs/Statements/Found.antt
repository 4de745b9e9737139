-- The row that is found for a sender and a kind stands in the table, and where rows are single it is each one that
-- stands there. `Reach`, and the crates `host_closure` and `node_view` stand on it.
use Rattle.std.proofs.Common.{◌≡◌, ℕ, true, not, ◌==◌, List, [], ◌∷◌, find, Option, Some, None, option_map, refl, sym, ◌∙◌, subst, inl, inr, arith}
use Rattle.std.specs.List.{Contains, list_all}
use Rattle.std.proofs.lemmas.Bool.{cases_Bool, and_parts, eqb-true, true≢false, not-true}
use Rattle.scp_types.specs.Trees.{Slices}
use Rattle.scp_types.specs.declared.kind.Kind.{Kind}
use Rattle.scp_types.specs.Statements.{Sent, kind_of}
use Rattle.scp_spec.specs.Rows.{row, is_row_of, is_kind, has_single_rows}
use Rattle.scp_spec.proofs.Statements.Offers.{is_row_of-own, is_row_of-alike}
use Rattle.scp_spec.proofs.Sets.Contained.{contains_head, contains_tail, contained_cases, all_contained}

-- a row that is found stands in the table, and is its sender's
pub row_contained : (table : List Sent) (u : ℕ) (k : Kind) (e : Sent) → row table u k ≡ Some e
    → Contains table e × (e.sender ≡ u)
unfolding row
row_contained [] u k e h = cc
row_contained (x ∷ xs) u k e h = elim (cases_Bool (is_row_of u k x)) [
  | inl i ↦ let q : x ≡ e = (let r = rw i at h in cc) in (
    subst (λ z. Contains (x ∷ xs) z) q (contains_head x xs),
    subst (λ (z : Sent). z.sender ≡ u) q
        (eqb-true x.sender u (and_parts (x.sender == u) (is_kind k (kind_of x.body)) i).0),
  )
  | inr o ↦ let r = row_contained xs u k e (rw o at h) in (contains_tail e x xs r.0, r.1)
]

-- where rows are single, each row of the table is the one that is found for its sender and kind
pub row_found : (table : List Sent) (e : Sent) → has_single_rows table ≡ true → Contains table e
    → row table e.sender (kind_of e.body) ≡ Some e
unfolding row
row_found [] e single c = absurd (let l = c.1 in omega arith)
row_found (x ∷ xs) e single c =
    let p = and_parts (list_all (λ y. not (is_row_of x.sender (kind_of x.body) y)) xs) (has_single_rows xs) single in
    elim (contained_cases e x xs c) [
      | inl q ↦ subst (λ (z : Sent). find (is_row_of z.sender (kind_of z.body)) (x ∷ xs) ≡ Some z) q
          (rw (is_row_of-own x) refl)
      | inr i ↦ elim (cases_Bool (is_row_of e.sender (kind_of e.body) x)) [
        | inl h ↦
            let alike = sym (is_row_of-alike x.sender (kind_of x.body) x e h) ∙ is_row_of-own x in
            let apart = not-true _ (all_contained (λ y. not (is_row_of x.sender (kind_of x.body) y)) xs e p.0 i) in
            absurd (true≢false (sym alike ∙ apart))
        | inr h ↦ rw h (row_found xs e p.1 i)
      ]
    ]

pub slices_of_row : (o : Option Sent) (q : Slices) → option_map (λ e. e.slices) o ≡ Some q
    → (e : Sent) × (o ≡ Some e) × (e.slices ≡ q)
slices_of_row None q h = cc
slices_of_row (Some e) q h = (e, refl, cc)
