-- Where a value is inserted in a list.
use Rattle.std.proofs.Common.{◌≡◌, ℕ, suc, ◌+◌, ◌<◌, true, false, List, [], ◌∷◌, ◌++◌, length, take, drop, get_or, refl, sym, ◌∙◌, ap, subst, if◌then◌else◌, append_assoc, arith, drop-cons, add-one}
use Rattle.std.specs.List.{insert}
use Rattle.std.specs.Ordering.{is_lt}
use Rattle.std.proofs.lemmas.List.{drop_all, take-append-drop}
use Rattle.std.proofs.Math.Seq.{take-suc}
use Rattle.scp_types.specs.Orders.{bytes_cmp}
use Rattle.scp_types.specs.Nominations.{same_value, with_value}

-- the first values are neither above the value nor the same
abbrev pub GoesOn : List ℕ → List (List ℕ) → ℕ → Type 0
GoesOn x ys i = with_value x ys ≡ take i ys ++ with_value x (drop i ys)

with_last : (x : List ℕ) → with_value x [] ≡ x ∷ []
unfolding with_value
with_last x = refl

with_front : (x y : List ℕ) (ys : List (List ℕ)) → is_lt (bytes_cmp x y) ≡ true → with_value x (y ∷ ys) ≡ x ∷ y ∷ ys
unfolding with_value
with_front x y ys e = ap (λ b. if b then x ∷ y ∷ ys else (if same_value y x then y ∷ ys else y ∷ with_value x ys)) e

with_there : (x y : List ℕ) (ys : List (List ℕ)) → is_lt (bytes_cmp x y) ≡ false → same_value y x ≡ true → with_value x (y ∷ ys) ≡ y ∷ ys
unfolding with_value
with_there x y ys e f = ap (λ b. if b then x ∷ y ∷ ys else (if same_value y x then y ∷ ys else y ∷ with_value x ys)) e ∙ ap (λ b. if b then y ∷ ys else y ∷ with_value x ys) f

with_behind : (x y : List ℕ) (ys : List (List ℕ)) → is_lt (bytes_cmp x y) ≡ false → same_value y x ≡ false → with_value x (y ∷ ys) ≡ y ∷ with_value x ys
unfolding with_value
with_behind x y ys e f = ap (λ b. if b then x ∷ y ∷ ys else (if same_value y x then y ∷ ys else y ∷ with_value x ys)) e ∙ ap (λ b. if b then y ∷ ys else y ∷ with_value x ys) f

pub starts : (x : List ℕ) (ys : List (List ℕ)) → GoesOn x ys 0
starts x ys = refl

pub at_end : (x : List ℕ) (ys : List (List ℕ)) (i : ℕ) → i ≡ length ys → GoesOn x ys i → with_value x ys ≡ insert ys (length ys) x
at_end x ys i e g =
    let past : drop (length ys) ys ≡ [] = drop_all (length ys) ys (omega arith) in
    subst (λ n. GoesOn x ys n) e g ∙ ap (λ zs. take (length ys) ys ++ zs) (ap (with_value x) past ∙ with_last x ∙ ap (λ zs. x ∷ zs) (sym past))

-- y stands at the place i
module _ (x y : List ℕ) (ys : List (List ℕ)) (i : ℕ) (h : i < length ys) (is : y ≡ get_or ys i y) (g : GoesOn x ys i) where
  from_place : drop i ys ≡ y ∷ drop (i + 1) ys
  from_place = rw add-one (drop-cons ys i y h ∙ ap (λ z. z ∷ drop (suc i) ys) (sym is))

  up_to_place : take (i + 1) ys ≡ take i ys ++ y ∷ []
  up_to_place = rw add-one (take-suc ys i y h ∙ ap (λ z. take i ys ++ z ∷ []) (sym is))

  pub at_front : is_lt (bytes_cmp x y) ≡ true → with_value x ys ≡ insert ys i x
  at_front e = g ∙ ap (λ zs. take i ys ++ zs) (ap (with_value x) from_place ∙ with_front x y (drop (i + 1) ys) e ∙ ap (λ zs. x ∷ zs) (sym from_place))

  pub there : is_lt (bytes_cmp x y) ≡ false → same_value y x ≡ true → with_value x ys ≡ ys
  there e f = g ∙ ap (λ zs. take i ys ++ zs) (ap (with_value x) from_place ∙ with_there x y (drop (i + 1) ys) e f ∙ sym from_place) ∙ take-append-drop i ys

  pub one_more : is_lt (bytes_cmp x y) ≡ false → same_value y x ≡ false → GoesOn x ys (i + 1)
  one_more e f =
      g ∙ ap (λ zs. take i ys ++ zs) (ap (with_value x) from_place ∙ with_behind x y (drop (i + 1) ys) e f)
      ∙ sym (ap (λ zs. zs ++ with_value x (drop (i + 1) ys)) up_to_place ∙ append_assoc (take i ys) (y ∷ []) (with_value x (drop (i + 1) ys)))
