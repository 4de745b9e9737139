-- What entries gave out is found by their numbers.
use Rattle.std.proofs.Common.{◌≡◌, ℕ, zero, suc, ◌<◌, Bool, true, false, ◌==◌, Vec, List, [], ◌∷◌, ◌++◌, length, map, get_or, Option, Some, None, option_map, Result, Ok, Err, if◌then◌else◌, refl, sym, ap, ◌∙◌, subst, arith}
use Rattle.std.specs.Global.{Global}
use Rattle.std.specs.List.{All}
use Rattle.std.specs.List.Sorted.{IsBinarySearchResult, IsSearchInRange}
use Rattle.std.specs.Ordering.{nat_cmp}
use Rattle.std.proofs.lemmas.Bool.Decides.{nat_tests}
use Rattle.std.proofs.lemmas.List.{get_or-map, length-map, map-append}
use Rattle.std.proofs.lemmas.List.Elements.{All-append, All-cons, All-nil}
use Rattle.std.proofs.lemmas.List.Quantifiers.{all_pairs_push}
use Rattle.scp_spec.specs.Sets.{IsAscending}
use Rattle.host_config.specs.Configs.{index_in}
use Rattle.host_network.proofs.KeyPlaces.{key-place}
use Rattle.node_core.specs.declared.filed.FiledOut.{FiledOut}
use Rattle.host_journal.specs.declared.outs_list.EntryOuts.{EntryOuts}
use Rattle.host_journal.specs.Giving.{IsFoundAt, entry_number, listed_at, put_behind, with_outs}

-- ---- what a search answers
pub found : (es : List EntryOuts) (n : ℕ) (r : Result ℕ ℕ) → IsAscending (map entry_number es) → IsSearchInRange r (length es) → IsBinarySearchResult (λ (x : EntryOuts). nat_cmp x.entry n) es r → IsFoundAt es n r
found [] n (Ok at) up inside is = absurd (omega (arith, inside))
found [] n (Err at) up inside is = refl
found (x ∷ es) n (Ok at) up inside is = key-place entry_number x (x ∷ es) n up (Ok at) inside is
found (x ∷ es) n (Err at) up inside is = (key-place entry_number x (x ∷ es) n up (Err at) inside is).0

-- the list at the place of a number, as the code reads it
pub listed-there : (es : List EntryOuts) (n at : ℕ) (x : EntryOuts) → index_in (map entry_number es) n ≡ Some at → at < length es → x ≡ get_or es at x → x.outs.items ≡ listed_at es n
listed-there [] n at x found inside is = absurd (omega (arith, inside))
listed-there (y ∷ es) n at x found inside is = go (y.entry == n) at found inside is (index_in (map entry_number es) n) refl (λ k f l h. listed-there es n k x f l h)
  where
    go : (b : Bool) (at : ℕ) → (if b then Some 0 else option_map suc (index_in (map entry_number es) n)) ≡ Some at → at < length (y ∷ es) → x ≡ get_or (y ∷ es) at x → (o : Option ℕ) → index_in (map entry_number es) n ≡ o
        → ((k : ℕ) → index_in (map entry_number es) n ≡ Some k → k < length es → x ≡ get_or es k x → x.outs.items ≡ listed_at es n) → x.outs.items ≡ (if b then y.outs.items else listed_at es n)
    go true zero f l h o q later = ap (λ (z : EntryOuts). z.outs.items) h
    go true (suc at) f l h o q later = absurd (cc)
    go false at f l h None q later = absurd (cc)
    go false zero f l h (Some k) q later = absurd (cc)
    go false (suc at) f l h (Some k) q later = let same : k ≡ at = cc in later at (q ∙ ap (λ i. Some i) same) (omega (arith, l)) h

pub listed-nowhere : (es : List EntryOuts) (n : ℕ) → index_in (map entry_number es) n ≡ None → listed_at es n ≡ []
listed-nowhere [] n h = refl
listed-nowhere (y ∷ es) n h = go (y.entry == n) h (index_in (map entry_number es) n) refl (listed-nowhere es n)
  where
    go : (b : Bool) → (if b then Some 0 else option_map suc (index_in (map entry_number es) n)) ≡ None → (o : Option ℕ) → index_in (map entry_number es) n ≡ o → (index_in (map entry_number es) n ≡ None → listed_at es n ≡ []) → (if b then y.outs.items else listed_at es n) ≡ []
    go true q o k later = absurd (cc)
    go false q None k later = later k
    go false q (Some i) k later = absurd (cc)

-- ---- one list more, behind those of earlier entries
abbrev pub AreEarlier : List EntryOuts → ℕ → Type 0
AreEarlier es n = All (λ (x : EntryOuts). x.entry < n) es

apart : (a b : ℕ) → a < b → (a == b) ≡ false
apart a b h = grind (arith, nat_tests, h)

rest_earlier : (x : EntryOuts) (es : List EntryOuts) (n : ℕ) → AreEarlier (x ∷ es) n → AreEarlier es n
rest_earlier x es n h = λ k d l. h (suc k) d (omega (arith, l))

none-yet : (es : List EntryOuts) (n : ℕ) → AreEarlier es n → listed_at es n ≡ []
none-yet [] n h = refl
none-yet (x ∷ es) n h = ap (λ b. if b then x.outs.items else listed_at es n) (apart x.entry n (h 0 x (omega arith))) ∙ none-yet es n (rest_earlier x es n h)

-- in a list one longer
put-same : (es : List EntryOuts) (x : EntryOuts) → AreEarlier es x.entry → listed_at (es ++ x ∷ []) x.entry ≡ x.outs.items
put-same [] x h = ap (λ b. if b then x.outs.items else []) (is_same x.entry)
  where
    is_same : (n : ℕ) → (n == n) ≡ true
    is_same n = grind (arith, nat_tests)
put-same (y ∷ es) x h = ap (λ b. if b then y.outs.items else listed_at (es ++ x ∷ []) x.entry) (apart y.entry x.entry (h 0 y (omega arith))) ∙ put-same es x (rest_earlier y es x.entry h)

put-other : (es : List EntryOuts) (x : EntryOuts) (k : ℕ) → k < x.entry → listed_at (es ++ x ∷ []) k ≡ listed_at es k
put-other [] x k l = ap (λ b. if b then x.outs.items else []) (other x.entry k l)
  where
    other : (a b : ℕ) → b < a → (a == b) ≡ false
    other a b h = grind (arith, nat_tests, h)
put-other (y ∷ es) x k l = ap (λ os. if y.entry == k then y.outs.items else os) (put-other es x k l)

-- what was given out is listed by its number, all earlier entries have what they had, and the lists ascend still
pub record IsPut (old new : List EntryOuts) (n : ℕ) (outs : List FiledOut) : Type 0 where
  pub here : listed_at new n ≡ outs
  pub others : (k : ℕ) → k < n → listed_at new k ≡ listed_at old k
  pub ascending : IsAscending (map entry_number new)
  pub earlier : AreEarlier new (suc n)

still_earlier : (es : List EntryOuts) (n : ℕ) → AreEarlier es n → AreEarlier es (suc n)
still_earlier es n h = λ k d l. let m = h k d l in omega (arith, m)

pub put-behind : (old : List EntryOuts) (n : ℕ) (outs : Vec FiledOut Global) → IsAscending (map entry_number old) → AreEarlier old n → IsPut old (with_outs n outs old) n outs.items
put-behind old n outs up before = go outs.items refl
  where
    x : EntryOuts
    x = record { entry = n; outs = outs }

    go : (os : List FiledOut) → outs.items ≡ os → IsPut old (put_behind os old x) n os
    go [] q = record { here = none-yet old n before; others = λ k l. refl; ascending = up; earlier = still_earlier old n before }
    go (o ∷ os) q = record {
      here = put-same old x before ∙ q;
      others = λ k l. put-other old x k l;
      ascending = subst IsAscending (sym (map-append entry_number old (x ∷ []))) (all_pairs_push (λ (a b : ℕ). a < b) (map entry_number old) n up
          (λ k d l. let m : k < length old = subst (λ i. k < i) (length-map old entry_number) l in subst (λ i. i < n) (sym (get_or-map entry_number old k x d m)) (before k x m)));
      earlier = All-append (λ (y : EntryOuts). y.entry < suc n) old (x ∷ []) (still_earlier old n before) (All-cons (λ (y : EntryOuts). y.entry < suc n) x [] (omega arith) (All-nil (λ (y : EntryOuts). y.entry < suc n)));
    }
