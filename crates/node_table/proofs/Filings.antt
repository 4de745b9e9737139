-- Rows as they were filed, and the envelopes that they stand for.
use Rattle.std.proofs.Common.{◌≡◌, ℕ, zero, suc, List, [], ◌∷◌, ◌++◌, length, get_or, set, refl, ap}
use Rattle.std.proofs.lemmas.List.{length-map, map-set}
use Rattle.node_store.specs.declared.filed.Filed.{Filed}
use Rattle.node_store.specs.Archives.{sent_of, sents_of}

pub sents-length : (rows : List Filed) → length (sents_of rows) ≡ length rows
sents-length rows = length-map rows sent_of

pub sents-set : (rows : List Filed) (i : ℕ) (f : Filed) → sents_of (set rows i f) ≡ set (sents_of rows) i (sent_of f)
sents-set rows i f = map-set sent_of rows i f

pub sents-push : (rows : List Filed) (f : Filed) → sents_of (rows ++ f ∷ []) ≡ sents_of rows ++ sent_of f ∷ []
sents-push [] f = refl
sents-push (x ∷ xs) f = ap (λ ys. sent_of x ∷ ys) (sents-push xs f)

pub sents-at : (rows : List Filed) (i : ℕ) (d : Filed) → get_or (sents_of rows) i (sent_of d) ≡ sent_of (get_or rows i d)
sents-at [] i d = refl
sents-at (x ∷ xs) zero d = refl
sents-at (x ∷ xs) (suc i) d = sents-at xs i d
