-- From two lists that part to what they stand for.
use Rattle.std.proofs.Common.{◌≡◌, ◌≢◌, ℕ, List, [], ◌∷◌, map, take, slice_get, Option, Some, None, option_map, MatchOption, refl, sym, ◌∙◌, ap, subst}
use Rattle.std.proofs.lemmas.List.{take-map}
use Rattle.std.proofs.lemmas.Option.{slice_get-map}
use Rattle.std.specs.List.{AllZip}
use Rattle.scp_spec.specs.Verdicts.{IsFirstDifference}
use Rattle.host_closure.specs.Parting.{AreParted, IsPartedAt}

some_once : {A : Type 0} (xs ys : List A) → map (λ x. Some x) xs ≡ map (λ x. Some x) ys → xs ≡ ys
some_once [] [] e = refl
some_once [] (y ∷ ys) e = cc
some_once (x ∷ xs) [] e = cc
some_once (x ∷ xs) (y ∷ ys) e = let p : Some x ≡ Some y = cc in let q : map (λ z. Some z) xs ≡ map (λ z. Some z) ys = cc in let r : x ≡ y = cc in λ i. r i ∷ some_once xs ys q i

-- the elements of each list stand for those of another one
module _ {T A : Type 0} (f g : T → Option A) (Same Other : T → T → Type 0) (same : (x y : T) → Same x y → f x ≡ g y) where
  alike : (xs ys : List T) → AllZip Same xs ys → map f xs ≡ map g ys
  alike [] [] h = refl
  alike [] (y ∷ ys) h = absurd h
  alike (x ∷ xs) [] h = absurd h
  alike (x ∷ xs) (y ∷ ys) h = λ i. same x y h.0 i ∷ alike xs ys h.1 i

  module _ (xs ys : List T) (ones others : List A) (first : map (λ z. Some z) ones ≡ map f xs) (second : map (λ z. Some z) others ≡ map g ys) (apart : (k : ℕ) (x y : T) → slice_get xs k ≡ Some x → Other x y → f x ≢ g y) where
    pub whole_is : AllZip Same xs ys → ones ≡ others
    whole_is h = some_once ones others (first ∙ (alike xs ys h ∙ sym second))

    unlike : (place : ℕ) (o p : Option T) → slice_get xs place ≡ o → slice_get ys place ≡ p → AreParted Other o p → option_map f o ≡ option_map g p → ⊥
    unlike place None None a b h e = h
    unlike place None (Some y) a b h e = cc
    unlike place (Some x) None a b h e = cc
    unlike place (Some x) (Some y) a b h e = apart place x y a h (one e)
      where
        one : {z w : Option A} → Some z ≡ Some w → z ≡ w
        one q = cc

    at : (v : T → Option A) (zs : List T) (ws : List A) (place : ℕ) → map (λ z. Some z) ws ≡ map v zs → option_map (λ z. Some z) (slice_get ws place) ≡ option_map v (slice_get zs place)
    at v zs ws place e = sym (slice_get-map (λ z. Some z) ws place) ∙ (ap (λ us. slice_get us place) e ∙ slice_get-map v zs place)

    pub parted_is : (place : ℕ) → IsPartedAt Same Other xs ys place → IsFirstDifference ones others place
    parted_is place h = record {
      before = some_once (take place ones) (take place others)
          (sym (take-map (λ z. Some z) place ones) ∙ (ap (take place) first ∙ (take-map f place xs ∙ (alike (take place xs) (take place ys) h.before
          ∙ (sym (take-map g place ys) ∙ (ap (take place) (sym second) ∙ take-map (λ z. Some z) place others))))));
      there = λ e. unlike place (slice_get xs place) (slice_get ys place) refl refl h.there
          (sym (at f xs ones place first) ∙ (ap (option_map (λ z. Some z)) e ∙ at g ys others place second));
    }

    pub difference_is : (o : Option ℕ) → MatchOption o (AllZip Same xs ys) (IsPartedAt Same Other xs ys) → MatchOption o (ones ≡ others) (IsFirstDifference ones others)
    difference_is None h = whole_is h
    difference_is (Some place) h = parted_is place h

-- the same of lists that these are, and of what the answer is
pub judged_as : {A : Type 0} {xs ys ones others : List A} (o p : Option ℕ) → o ≡ p → xs ≡ ones → ys ≡ others → MatchOption o (xs ≡ ys) (IsFirstDifference xs ys) → MatchOption p (ones ≡ others) (IsFirstDifference ones others)
judged_as {A} {xs} {ys} {ones} {others} o p e a b h =
    subst (λ (q : Option ℕ). MatchOption q (ones ≡ others) (IsFirstDifference ones others)) e
    (subst {A = List A × List A} (λ q. MatchOption o (q.0 ≡ q.1) (IsFirstDifference q.0 q.1)) (λ j. (a j, b j)) h)
