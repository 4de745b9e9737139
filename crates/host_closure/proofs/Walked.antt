-- Two lists that are gone through side by side.
use Rattle.std.proofs.Common.{◌≡◌, ◌≢◌, ℕ, ◌+◌, ◌<◌, List, [], ◌∷◌, ◌++◌, length, take, get_or, min, slice_get, Option, Some, None, refl, sym, ◌∙◌, ap, subst, inl, inr, arith}
use Rattle.std.proofs.lemmas.List.{take_more}
use Rattle.std.proofs.lemmas.Option.{slice_get_cases, slice_get_read}
use Rattle.std.proofs.lemmas.Slice.Zip.{all_zipped_more}
use Rattle.std.specs.List.{AllZip}
use Rattle.host_closure.specs.Parting.{AreParted, IsPartedAt}

module _ {T : Type 0} (Same Other : T → T → Type 0) (xs ys : List T) where
  apart_at : (k : ℕ) (o p : Option T) → slice_get xs k ≡ o → slice_get ys k ≡ p → AreParted Other o p → AreParted Other (slice_get xs k) (slice_get ys k)
  apart_at k o p a b h = subst {A = Option T × Option T} (λ z. AreParted Other z.0 z.1) (λ j. (sym a j, sym b j)) h

  module _ (k : ℕ) (x y : T) (a : k < length xs) (b : k < length ys) (p : x ≡ get_or xs k x) (q : y ≡ get_or ys k y) (before : AllZip Same (take k xs) (take k ys)) where
    one : (zs : List T) (z : T) → k < length zs → z ≡ get_or zs k z → take k zs ++ z ∷ [] ≡ take (k + 1) zs
    one zs z l e = sym (take_more zs k z l ∙ ap (λ w. take k zs ++ w ∷ []) (sym e))

    pub same_at : Same x y → AllZip Same (take (k + 1) xs) (take (k + 1) ys)
    same_at h = subst (λ (z : List T × List T). AllZip Same z.0 z.1) (λ j. (one xs x a p j, one ys y b q j)) (all_zipped_more Same (take k xs) (take k ys) x y before h)

    pub other_at : Other x y → IsPartedAt Same Other xs ys k
    other_at h = record {
      before = before;
      there = apart_at k (Some x) (Some y) (slice_get_read xs (length xs) k x refl a p) (slice_get_read ys (length ys) k y refl b q) h;
    }

  pub ended_at : (n k : ℕ) → n ≡ min (length xs) (length ys) → k ≡ n → length xs ≢ length ys → AllZip Same (take k xs) (take k ys) → IsPartedAt Same Other xs ys n
  ended_at n k m e unlike before = record {
    before = subst (λ j. AllZip Same (take j xs) (take j ys)) e before;
    there = elim (slice_get_cases xs n).1 [
      | inl a ↦ elim (slice_get_cases ys n).1 [
        | inl b ↦ absurd (let l = a.1 in let r = b.1 in grind (arith, m, l, r))
        | inr b ↦ apart_at n (Some a.0) None a.2 b.1 tt
      ]
      | inr a ↦ elim (slice_get_cases ys n).1 [
        | inl b ↦ apart_at n None (Some b.0) a.1 b.2 tt
        | inr b ↦ absurd (unlike (let l = a.0 in let r = b.0 in grind (arith, m, l, r)))
      ]
    ];
  }
