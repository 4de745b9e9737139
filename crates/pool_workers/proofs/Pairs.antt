-- Two lists whose elements are related place by place.
use Rattle.std.proofs.Common.{◌≡◌, ◌<◌, ℕ, zero, suc, List, [], ◌∷◌, ◌++◌, length, get_or, set, refl, sym, ap, subst, arith}
use Rattle.std.specs.List.{AllZip}

module _ {A B : Type 0} (R : A → B → Type 0) where
  pub zip-at : (xs : List A) (ys : List B) (k : ℕ) (a : A) (b : B) → AllZip R xs ys → k < length xs → a ≡ get_or xs k a → b ≡ get_or ys k b → R a b
  zip-at [] ys k a b all lt is at = absurd (omega arith)
  zip-at (x ∷ xs) [] k a b all lt is at = absurd all
  zip-at (x ∷ xs) (y ∷ ys) zero a b all lt is at = subst (λ z. R z b) (sym is) (subst (R x) (sym at) all.0)
  zip-at (x ∷ xs) (y ∷ ys) (suc k) a b all lt is at = zip-at xs ys k a b all.1 (omega arith) is at

  pub zip-set : (xs : List A) (ys : List B) (k : ℕ) (a : A) (b : B) → AllZip R xs ys → k < length xs → a ≡ get_or xs k a → R a b → AllZip R xs (set ys k b)
  zip-set [] ys k a b all lt is one = absurd (omega arith)
  zip-set (x ∷ xs) [] k a b all lt is one = absurd all
  zip-set (x ∷ xs) (y ∷ ys) zero a b all lt is one = (subst (λ z. R z b) is one, all.1)
  zip-set (x ∷ xs) (y ∷ ys) (suc k) a b all lt is one = (all.0, zip-set xs ys k a b all.1 (omega arith) is one)

  pub zip-append : (xs us : List A) (ys vs : List B) → AllZip R xs ys → AllZip R us vs → AllZip R (xs ++ us) (ys ++ vs)
  zip-append [] us [] vs one other = other
  zip-append [] us (y ∷ ys) vs one other = absurd one
  zip-append (x ∷ xs) us [] vs one other = absurd one
  zip-append (x ∷ xs) us (y ∷ ys) vs one other = (one.0, zip-append xs us ys vs one.1 other)

  -- the last of the second list, and of the first that to which it is related
  pub zip-last : (xs : List A) (ys : List B) (b : B) → AllZip R xs (ys ++ b ∷ []) → (us : List A) × (a : A) × (xs ≡ us ++ a ∷ []) × AllZip R us ys × R a b
  zip-last [] [] b all = absurd all
  zip-last [] (y ∷ ys) b all = absurd all
  zip-last (x ∷ []) [] b all = ([], x, refl, tt, all.0)
  zip-last (x ∷ z ∷ xs) [] b all = absurd all.1
  zip-last (x ∷ xs) (y ∷ ys) b all = let r = zip-last xs ys b all.1 in (x ∷ r.0, r.1, ap (λ l. x ∷ l) r.2, (all.0, r.3), r.4)

pub zip-same : {A : Type 0} (R : A → A → Type 0) → ((a : A) → R a a) → (xs : List A) → AllZip R xs xs
zip-same R one [] = tt
zip-same R one (x ∷ xs) = (one x, zip-same R one xs)

-- one relation after the other
pub zip-then : {A B C : Type 0} (R : A → B → Type 0) (Q : B → C → Type 0) (T : A → C → Type 0) → ((a : A) (b : B) (c : C) → R a b → Q b c → T a c) → (xs : List A) (ys : List B) (zs : List C) → AllZip R xs ys → AllZip Q ys zs → AllZip T xs zs
zip-then R Q T one [] [] [] x y = tt
zip-then R Q T one [] [] (c ∷ zs) x y = absurd y
zip-then R Q T one [] (b ∷ ys) zs x y = absurd x
zip-then R Q T one (a ∷ xs) [] zs x y = absurd x
zip-then R Q T one (a ∷ xs) (b ∷ ys) [] x y = absurd y
zip-then R Q T one (a ∷ xs) (b ∷ ys) (c ∷ zs) x y = (one a b c x.0 y.0, zip-then R Q T one xs ys zs x.1 y.1)
