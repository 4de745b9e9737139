-- The places of emissions of a kind lead to them.
use Rattle.std.proofs.Common.{◌≡◌, ℕ, zero, suc, ◌+◌, ◌-◌, ◌≤◌, ◌++◌, length, Bool, true, false, List, [], ◌∷◌, filter, slice_get, Some, None, if◌then◌else◌, cond, refl, sym, ◌∙◌, ap, arith}
use Rattle.scp_types.specs.declared.kind.Kind.{Kind}
use Rattle.scp_types.specs.Statements.{Sent, kind_of}
use Rattle.scp_spec.specs.Rows.{is_kind}
use Rattle.host_network.specs.EmissionsByKind.{places_from, places_of_kind, nth_of}

abbrev pub of_kind : Kind → List Sent → List Sent
of_kind kind emitted = filter (λ e. is_kind kind (kind_of e.body)) emitted

none-from : (kind : Kind) (n : ℕ) (emitted : List Sent) (k : ℕ) → slice_get (places_from kind n emitted) k ≡ None → slice_get (of_kind kind emitted) k ≡ None
none-from kind n [] k h = refl
none-from kind n (e ∷ es) k h = go (is_kind kind (kind_of e.body)) k h (λ j q. none-from kind (suc n) es j q)
  where
    go : (b : Bool) (k : ℕ) → slice_get (if b then n ∷ places_from kind (suc n) es else places_from kind (suc n) es) k ≡ None
        → ((j : ℕ) → slice_get (places_from kind (suc n) es) j ≡ None → slice_get (of_kind kind es) j ≡ None)
        → slice_get (cond b (e ∷ of_kind kind es) (of_kind kind es)) k ≡ None
    go true zero h ih = absurd (cc)
    go true (suc k) h ih = ih k h
    go false k h ih = ih k h

record Stands (kind : Kind) (n : ℕ) (emitted : List Sent) (k p : ℕ) : Type 0 where
  at : ℕ
  is : p ≡ n + at
  same : slice_get emitted at ≡ slice_get (of_kind kind emitted) k

some-from : (kind : Kind) (n : ℕ) (emitted : List Sent) (k p : ℕ) → slice_get (places_from kind n emitted) k ≡ Some p → Stands kind n emitted k p
some-from kind n [] k p h = absurd (cc)
some-from kind n (x ∷ xs) k p h = go (is_kind kind (kind_of x.body)) k refl h (λ j q. some-from kind (suc n) xs j p q)
  where
    go : (b : Bool) (k : ℕ) → is_kind kind (kind_of x.body) ≡ b → slice_get (if b then n ∷ places_from kind (suc n) xs else places_from kind (suc n) xs) k ≡ Some p
        → ((j : ℕ) → slice_get (places_from kind (suc n) xs) j ≡ Some p → Stands kind (suc n) xs j p)
        → Stands kind n (x ∷ xs) k p
    go true zero y h ih = let z : n ≡ p = cc in record { at = 0; is = omega (arith, z); same = sym (ap (λ b. slice_get (cond b (x ∷ of_kind kind xs) (of_kind kind xs)) 0) y) }
    go true (suc k) y h ih =
        let s = ih k h in let e = s.is in
        record { at = suc s.at; is = omega (arith, e); same = s.same ∙ sym (ap (λ b. slice_get (cond b (x ∷ of_kind kind xs) (of_kind kind xs)) (suc k)) y) }
    go false k y h ih =
        let s = ih k h in let e = s.is in
        record { at = suc s.at; is = omega (arith, e); same = s.same ∙ sym (ap (λ b. slice_get (cond b (x ∷ of_kind kind xs) (of_kind kind xs)) k) y) }

pub nth-none : (kind : Kind) (emitted : List Sent) (k : ℕ) → slice_get (places_of_kind kind emitted) k ≡ None → nth_of kind (suc k) emitted ≡ None
nth-none kind emitted k h = none-from kind 0 emitted k h

pub nth-some : (kind : Kind) (emitted : List Sent) (k p : ℕ) → slice_get (places_of_kind kind emitted) k ≡ Some p → slice_get emitted p ≡ nth_of kind (suc k) emitted
nth-some kind emitted k p h = let s = some-from kind 0 emitted k p h in let h2 = s.is in let e : p ≡ s.at = omega (arith, h2) in ap (slice_get emitted) e ∙ s.same

-- a number that is not 0 is one more than the number before it
pub from-one : (kind : Kind) (n : ℕ) (emitted : List Sent) → 1 ≤ n → nth_of kind n emitted ≡ nth_of kind (suc (n - 1)) emitted
from-one kind zero emitted h = absurd (omega (arith, h))
from-one kind (suc n) emitted h = let e : suc n ≡ suc (suc n - 1) = omega arith in ap (λ m. nth_of kind m emitted) e

-- one emission more
more-from : (kind : Kind) (n : ℕ) (emitted : List Sent) (e : Sent) → places_from kind n (emitted ++ e ∷ []) ≡ places_from kind n emitted ++ (if is_kind kind (kind_of e.body) then (n + length emitted) ∷ [] else [])
more-from kind n [] e = go (is_kind kind (kind_of e.body))
  where
    go : (b : Bool) → (if b then n ∷ [] else []) ≡ (if b then (n + 0) ∷ [] else [])
    go true = let z : n ≡ n + 0 = omega arith in ap (λ m. m ∷ []) z
    go false = refl
more-from kind n (x ∷ xs) e = go (is_kind kind (kind_of x.body)) (more-from kind (suc n) xs e)
  where
    last : ℕ → List ℕ
    last m = if is_kind kind (kind_of e.body) then m ∷ [] else []

    go : (b : Bool) → places_from kind (suc n) (xs ++ e ∷ []) ≡ places_from kind (suc n) xs ++ last (suc n + length xs)
        → (if b then n ∷ places_from kind (suc n) (xs ++ e ∷ []) else places_from kind (suc n) (xs ++ e ∷ [])) ≡ (if b then n ∷ places_from kind (suc n) xs else places_from kind (suc n) xs) ++ last (n + suc (length xs))
    go true ih = let z : suc n + length xs ≡ n + suc (length xs) = omega arith in ap (λ ys. n ∷ ys) (ih ∙ ap (λ m. places_from kind (suc n) xs ++ last m) z)
    go false ih = let z : suc n + length xs ≡ n + suc (length xs) = omega arith in ih ∙ ap (λ m. places_from kind (suc n) xs ++ last m) z

pub places_next : (kind : Kind) (emitted : List Sent) (e : Sent) → places_of_kind kind (emitted ++ e ∷ []) ≡ places_of_kind kind emitted ++ (if is_kind kind (kind_of e.body) then length emitted ∷ [] else [])
places_next kind emitted e = let z : 0 + length emitted ≡ length emitted = omega arith in more-from kind 0 emitted e ∙ ap (λ m. places_of_kind kind emitted ++ (if is_kind kind (kind_of e.body) then m ∷ [] else [])) z

-- as many places as emissions
count-from : (kind : Kind) (n : ℕ) (emitted : List Sent) → length (places_from kind n emitted) ≡ length (of_kind kind emitted)
count-from kind n [] = refl
count-from kind n (x ∷ xs) = go (is_kind kind (kind_of x.body)) (count-from kind (suc n) xs)
  where
    go : (b : Bool) → length (places_from kind (suc n) xs) ≡ length (of_kind kind xs) → length (if b then n ∷ places_from kind (suc n) xs else places_from kind (suc n) xs) ≡ length (cond b (x ∷ of_kind kind xs) (of_kind kind xs))
    go true ih = ap suc ih
    go false ih = ih

pub count_of_kind : (kind : Kind) (emitted : List Sent) → length (places_of_kind kind emitted) ≡ length (filter (λ e. is_kind kind (kind_of e.body)) emitted)
count_of_kind kind emitted = count-from kind 0 emitted
