-- Where the rows of a table stand after it took an envelope: where they stood, and a first row behind all others.
use Rattle.std.proofs.Common.{◌≡◌, ℕ, suc, Bool, true, false, cond, List, [], ◌∷◌, Option, Some, None, option_map, if◌then◌else◌, refl, sym, ◌∙◌, ap, slice_get}
use Rattle.std.specs.List.{find}
use Rattle.std.proofs.lemmas.Bool.{true≢false}
use Rattle.scp_types.specs.declared.kind.Kind.{Kind}
use Rattle.scp_types.specs.Statements.{Sent, kind_of}
use Rattle.scp_spec.specs.Rows.{is_row_of, row, with_row}
use Rattle.scp_spec.proofs.Statements.Offers.{is_row_of-alike, is_row_of-both}
use Rattle.node_table.specs.Places.{place_of_row}

-- whose row the envelope is not
pub place-of_others : (e : Sent) (table : List Sent) (u : ℕ) (k : Kind) → is_row_of u k e ≡ false → place_of_row (with_row e table) u k ≡ place_of_row table u k
unfolding with_row
place-of_others e [] u k h = rw h refl
place-of_others e (x ∷ xs) u k h = go (is_row_of e.sender (kind_of e.body) x) refl (place-of_others e xs u k h)
  where
    go : (b : Bool) → is_row_of e.sender (kind_of e.body) x ≡ b → place_of_row (with_row e xs) u k ≡ place_of_row xs u k
        → place_of_row (if b then e ∷ xs else x ∷ with_row e xs) u k ≡ place_of_row (x ∷ xs) u k
    go true q ih = rw h (rw (is_row_of-alike u k x e q ∙ h) refl)
    go false q ih = ap (λ o. cond (is_row_of u k x) (Some 0) (option_map suc o)) ih

-- whose row it replaces
pub place-of_replaced : (e : Sent) (table : List Sent) (u : ℕ) (k : Kind) (r : Sent) → row table u k ≡ Some r → is_row_of u k e ≡ true → place_of_row (with_row e table) u k ≡ place_of_row table u k
unfolding row with_row
place-of_replaced e [] u k r there h = cc
place-of_replaced e (x ∷ xs) u k r there h = go (is_row_of e.sender (kind_of e.body) x) (is_row_of u k x) refl refl there (λ t. place-of_replaced e xs u k r t h)
  where
    go : (a b : Bool) → is_row_of e.sender (kind_of e.body) x ≡ a → is_row_of u k x ≡ b → cond b (Some x) (find (is_row_of u k) xs) ≡ Some r
        → (find (is_row_of u k) xs ≡ Some r → place_of_row (with_row e xs) u k ≡ place_of_row xs u k)
        → place_of_row (if a then e ∷ xs else x ∷ with_row e xs) u k ≡ cond b (Some 0) (option_map suc (place_of_row xs u k))
    go true true p q t ih = rw h refl
    go true false p q t ih = absurd (true≢false (sym h ∙ (sym (is_row_of-alike u k x e p) ∙ q)))
    go false true p q t ih = absurd (true≢false (sym (is_row_of-both u k x e q h) ∙ p))
    go false false p q t ih = rw q (ap (option_map suc) (ih t))

-- what stands at the place of a row is that row
pub row-at_place : (table : List Sent) (u : ℕ) (k : Kind) (i : ℕ) → place_of_row table u k ≡ Some i → slice_get table i ≡ row table u k
unfolding row
row-at_place [] u k i h = cc
row-at_place (x ∷ xs) u k i h = go (is_row_of u k x) h (place_of_row xs u k) (row-at_place xs u k)
  where
    go : (b : Bool) → cond b (Some 0) (option_map suc (place_of_row xs u k)) ≡ Some i → (o : Option ℕ) → ((j : ℕ) → place_of_row xs u k ≡ Some j → slice_get xs j ≡ find (is_row_of u k) xs)
        → slice_get (x ∷ xs) i ≡ cond b (Some x) (find (is_row_of u k) xs)
    go true h o ih = cc
    go false h o ih = later (place_of_row xs u k) h ih
      where
        later : (o : Option ℕ) → option_map suc o ≡ Some i → ((j : ℕ) → o ≡ Some j → slice_get xs j ≡ find (is_row_of u k) xs) → slice_get (x ∷ xs) i ≡ find (is_row_of u k) xs
        later None e f = cc
        later (Some j) e f = let s : suc j ≡ i = cc in ap (slice_get (x ∷ xs)) (sym s) ∙ f j refl
