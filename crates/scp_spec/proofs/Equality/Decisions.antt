-- What can be decided: equality of numbers, lists and options, and of what can be had back from them. `Verdicts` stands
-- on it.
use Rattle.std.proofs.Common.{◌≡◌, ◌≢◌, ◌⊎◌, ℕ, Bool, true, ◌==◌, Option, Some, None, List, [], ◌∷◌, refl, sym, ◌∙◌, ap, ap₂, inl, inr}
use Rattle.std.proofs.lemmas.Bool.{cases_Bool, eqb-true, eq-eqb, true≢false}
use Rattle.scp_types.specs.Trees.{Members, Slices, tokens_of, members_from, members_from-tokens_of}
use Rattle.scp_types.specs.Statements.{Sent}
use Rattle.scp_types.specs.declared.kind.Kind.{Kind}
use Rattle.scp_types.specs.declared.statement.Statement.{Statement}
use Rattle.scp_spec.specs.Sameness.{same_statement}
use Rattle.scp_spec.specs.Rosters.{Shares}
use Rattle.scp_spec.proofs.Equality.Sameness.{same_statement-refl, same_statement-true}

-- each two are equal or not
abbrev pub IsDecided : Type 0 → Type 0
IsDecided A = (x y : A) → (x ≡ y) ⊎ (x ≢ y)

by_test : {A : Type 0} (test : A → A → Bool) → ((x y : A) → test x y ≡ true → x ≡ y)
    → ((x : A) → test x x ≡ true) → IsDecided A
by_test test t r x y = elim (cases_Bool (test x y)) [
  | inl e ↦ inl (t x y e)
  | inr e ↦ inr (λ q. true≢false (sym (r x) ∙ (ap (test x) q ∙ e)))
]

-- what can be had back from its image
pub by_image : {A B : Type 0} (f : A → B) (g : B → A) → ((x : A) → g (f x) ≡ x) → IsDecided B → IsDecided A
by_image f g back d x y = elim (d (f x) (f y)) [
  | inl e ↦ inl (sym (back x) ∙ (ap g e ∙ back y))
  | inr n ↦ inr (λ q. n (ap f q))
]

pub decided_ℕ : IsDecided ℕ
decided_ℕ = by_test (λ x y. x == y) eqb-true (λ x. eq-eqb x x refl)

pub decided× : {A B : Type 0} → IsDecided A → IsDecided B → IsDecided (A × B)
decided× a b x y = go (a x.0 y.0) (b x.1 y.1)
  where
    go : (x.0 ≡ y.0) ⊎ (x.0 ≢ y.0) → (x.1 ≡ y.1) ⊎ (x.1 ≢ y.1) → (x ≡ y) ⊎ (x ≢ y)
    go (inl e) (inl f) = inl (λ j. (e j, f j))
    go (inl e) (inr n) = inr (λ q. n (ap (λ p. p.1) q))
    go (inr n) f = inr (λ q. n (ap (λ p. p.0) q))

pub decided⊎ : {A B : Type 0} → IsDecided A → IsDecided B → IsDecided (A ⊎ B)
decided⊎ {A} {B} a b (inl x) (inl y) = elim (a x y) [ inl e ↦ inl (ap {B = A ⊎ B} inl e) | inr n ↦ inr (λ q. n (cc)) ]
decided⊎ a b (inl x) (inr y) = inr (λ q. cc)
decided⊎ a b (inr x) (inl y) = inr (λ q. cc)
decided⊎ {A} {B} a b (inr x) (inr y) = elim (b x y) [ inl e ↦ inl (ap {B = A ⊎ B} inr e) | inr n ↦ inr (λ q. n (cc)) ]

pub decided_list : {A : Type 0} → IsDecided A → IsDecided (List A)
decided_list a [] [] = inl refl
decided_list a [] (y ∷ ys) = inr (λ q. cc)
decided_list a (x ∷ xs) [] = inr (λ q. cc)
decided_list {A} a (x ∷ xs) (y ∷ ys) = go (a x y) (decided_list a xs ys)
  where
    go : (x ≡ y) ⊎ (x ≢ y) → (xs ≡ ys) ⊎ (xs ≢ ys) → (x ∷ xs ≡ y ∷ ys) ⊎ (x ∷ xs ≢ y ∷ ys)
    go (inl e) (inl f) = inl (ap₂ (λ (z : A) (zs : List A). z ∷ zs) e f)
    go (inl e) (inr n) = inr (λ q. n (cc))
    go (inr n) f = inr (λ q. n (cc))

pub decided_option : {A : Type 0} → IsDecided A → IsDecided (Option A)
decided_option a None None = inl refl
decided_option a None (Some y) = inr (λ q. cc)
decided_option a (Some x) None = inr (λ q. cc)
decided_option {A} a (Some x) (Some y) =
    elim (a x y) [ inl e ↦ inl (ap {B = Option A} Some e) | inr n ↦ inr (λ q. n (cc)) ]

decided_members : IsDecided Members
decided_members = by_image tokens_of members_from members_from-tokens_of (decided_list (decided× decided_ℕ decided_ℕ))

pub decided_slices : IsDecided Slices
decided_slices =
    by_image (λ s. (s.threshold, s.members)) (λ p. record { threshold = p.0; members = p.1 }) (λ s. refl)
    (decided× decided_ℕ decided_members)

decided_statement : IsDecided Statement
decided_statement = by_test same_statement same_statement-true same_statement-refl

pub decided_sent : IsDecided Sent
decided_sent =
    by_image (λ e. ((e.sender, e.slot), (e.slices, e.body)))
    (λ p. record { sender = p.0.0; slot = p.0.1; slices = p.1.0; body = p.1.1 }) (λ e. refl)
    (decided× (decided× decided_ℕ decided_ℕ) (decided× decided_slices decided_statement))

pub decided_shares : IsDecided Shares
decided_shares =
    by_image (λ s. ((s.own, s.pair), (s.bytes, s.opens)))
    (λ p. record { own = p.0.0; pair = p.0.1; bytes = p.1.0; opens = p.1.1 }) (λ s. refl)
    (decided× (decided× decided_ℕ decided_ℕ) (decided× decided_ℕ decided_ℕ))

pub decided_kind : IsDecided Kind
decided_kind Kind.Nomination Kind.Nomination = inl refl
decided_kind Kind.Nomination Kind.Ballot = inr (λ q. cc)
decided_kind Kind.Ballot Kind.Nomination = inr (λ q. cc)
decided_kind Kind.Ballot Kind.Ballot = inl refl
