-- A verdict on two runs is determined: no two are right. The law `verdicts_are_determined` and `OfCrowds` stand on it.
use Rattle.scp_types.specs.declared.event.Out.{Out}
use Rattle.std.proofs.Common.{◌≡◌, ℕ, ◌<◌, List, [], ◌∷◌, map, slice_get, is_some, refl, sym, ◌∙◌, ap, ap₂, subst, inl, inr, IsTrue}
use Rattle.std.specs.List.{AllByRecursion, Contains}
use Rattle.std.proofs.lemmas.Bool.{cases_order, true≢false}
use Rattle.scp_spec.specs.Sets.{Names}
use Rattle.scp_spec.specs.Networks.{HostedNode, slices_of}
use Rattle.scp_spec.specs.Hosts.{Entry}
use Rattle.scp_spec.specs.Isolation.{closure, kept_of, outs_of, SameCast}
use Rattle.scp_spec.specs.Verdicts.{Verdict, IsFirstUnlike, IsFirstDifference, IsListOf, VerdictsAreUnique}
use Rattle.scp_spec.specs.Verdicts.Verdict.{CastDiffers, InputsDiffer, Same}
use Rattle.scp_spec.proofs.Sets.Contained.{contained_cases}
use Rattle.scp_spec.proofs.Verdicts.OneList.{nothing_in, one_list}
use Rattle.scp_spec.proofs.Sets.Lists.{get_taken}

-- ---- lists of members with their outs
module _ (R : Names) (nodes : List HostedNode) (i : ℕ) (run : List Entry) where
  abbrev IsMember : ℕ × List Out → Type 0
  IsMember p = (p.1 ≡ outs_of i p.0 run) × (IsTrue (R p.0) × IsTrue (is_some (slices_of nodes p.0)))

  member_at : (list : List (ℕ × List Out)) → AllByRecursion IsMember list → (u : ℕ) → Contains (map (λ p. p.0) list) u
      → IsTrue (R u) × IsTrue (is_some (slices_of nodes u))
  member_at [] h u c = absurd (nothing_in u c)
  member_at (p ∷ ps) h u c = elim (contained_cases u p.0 (map (λ p. p.0) ps) c) [
    | inl e ↦ subst (λ w. IsTrue (R w) × IsTrue (is_some (slices_of nodes w))) e h.0.1
    | inr k ↦ member_at ps h.1 u k
  ]

  named_alike : (xs ys : List (ℕ × List Out)) → AllByRecursion IsMember xs → AllByRecursion IsMember ys
      → map (λ p. p.0) xs ≡ map (λ p. p.0) ys → xs ≡ ys
  named_alike [] [] h k e = refl
  named_alike [] (y ∷ ys) h k e = cc
  named_alike (x ∷ xs) [] h k e = cc
  named_alike (x ∷ xs) (y ∷ ys) h k e =
      let first : x.0 ≡ y.0 = cc in
      let rest : map (λ p. p.0) xs ≡ map (λ p. p.0) ys = cc in
      let same : x.1 ≡ y.1 = h.0.0 ∙ (ap (λ u. outs_of i u run) first ∙ sym k.0.0) in
      ap₂ {C = List (ℕ × List Out)} (λ (z : ℕ × List Out) (zs : List (ℕ × List Out)). z ∷ zs) (λ j. (first j, same j))
      (named_alike xs ys h.1 k.1 rest)

  one_list_of : (xs ys : List (ℕ × List Out)) → IsListOf R nodes i run xs → IsListOf R nodes i run ys → xs ≡ ys
  one_list_of xs ys a b =
      named_alike xs ys a.outs b.outs (one_list (map (λ p. p.0) xs) (map (λ p. p.0) ys) a.ascending b.ascending
      (λ u c. let m = member_at xs a.outs u c in b.all u m.0 m.1)
      (λ u c. let m = member_at ys b.outs u c in a.all u m.0 m.1))

not_before : {A : Type 0} (one other : List A) (p q : ℕ) → IsFirstDifference one other p
    → IsFirstDifference one other q → p < q → ⊥
not_before one other p q a b l =
    a.there (sym (get_taken one p q l) ∙ (ap (λ xs. slice_get xs p) b.before ∙ get_taken other p q l))

pub one_instance : {A : Type 0} (one other : List A) (p q : ℕ) → IsFirstDifference one other p
    → IsFirstDifference one other q → p ≡ q
one_instance one other p q a b = elim (cases_order p q) [
  | inl e ↦ e
  | inr (inl l) ↦ absurd (not_before one other p q a b l)
  | inr (inr l) ↦ absurd (not_before one other q p b a l)
]

-- ---- casts
module _ (R : Names) (v : ℕ) (one other : List HostedNode) where
  pub one_unlike : (u w : ℕ) → IsFirstUnlike R v one other u → IsFirstUnlike R v one other w → u ≡ w
  one_unlike u w (inl a) (inl b) = a.1 ∙ sym b.1
  one_unlike u w (inl a) (inr b) = absurd (true≢false (sym b.0 ∙ a.0))
  one_unlike u w (inr a) (inl b) = absurd (true≢false (sym a.0 ∙ b.0))
  one_unlike u w (inr a) (inr b) = elim (cases_order u w) [
    | inl e ↦ e
    | inr (inl l) ↦ absurd (a.1.1.0 (b.1.1.1 u a.1.0 l))
    | inr (inr l) ↦ absurd (b.1.1.0 (a.1.1.1 w b.1.0 l))
  ]

  pub not_unlike : (u : ℕ) → IsFirstUnlike R v one other u → SameCast R v one other → ⊥
  not_unlike u (inl a) c = true≢false (sym c.hosted ∙ a.0)
  not_unlike u (inr a) c = a.1.1.0 (c.same u a.1.0)

pub verdicts_are_unique : VerdictsAreUnique
verdicts_are_unique one other runs others i v (CastDiffers u) (CastDiffers w) h k =
    ap {B = Verdict} CastDiffers (one_unlike (closure one i v runs) v one other u w h k)
verdicts_are_unique one other runs others i v (CastDiffers u) (InputsDiffer p) h k =
    absurd (not_unlike (closure one i v runs) v one other u h k.0)
verdicts_are_unique one other runs others i v (CastDiffers u) (Same xs) h k =
    absurd (not_unlike (closure one i v runs) v one other u h k.0)
verdicts_are_unique one other runs others i v (InputsDiffer p) (CastDiffers u) h k =
    absurd (not_unlike (closure one i v runs) v one other u k h.0)
verdicts_are_unique one other runs others i v (InputsDiffer p) (InputsDiffer q) h k =
    ap {B = Verdict} InputsDiffer
    (one_instance (kept_of (closure one i v runs) i runs) (kept_of (closure one i v runs) i others) p q h.1 k.1)
verdicts_are_unique one other runs others i v (InputsDiffer p) (Same xs) h k =
    absurd (h.1.there (ap (λ ks. slice_get ks p) k.1.0))
verdicts_are_unique one other runs others i v (Same xs) (CastDiffers u) h k =
    absurd (not_unlike (closure one i v runs) v one other u k h.0)
verdicts_are_unique one other runs others i v (Same xs) (InputsDiffer p) h k =
    absurd (k.1.there (ap (λ ks. slice_get ks p) h.1.0))
verdicts_are_unique one other runs others i v (Same xs) (Same ys) h k =
    ap {B = Verdict} Same (one_list_of (closure one i v runs) one i runs xs ys h.1.1.0 k.1.1.0)
