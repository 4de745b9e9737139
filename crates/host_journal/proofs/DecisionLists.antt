-- What entries decided, with one entry more, and from one number on.
use Rattle.std.proofs.Common.{◌≡◌, ℕ, zero, suc, ◌<◌, ◌≤◌, List, [], ◌∷◌, ◌++◌, length, refl, sym, ap, ◌∙◌, append_assoc, arith}
use Rattle.std.proofs.lemmas.List.{append-nil}
use Rattle.scp_spec.specs.Hosts.{Entry}
use Rattle.host_journal.specs.Deciding.{ExternalizedValue, decisions_at, decisions_by, decisions_from, decisions_in}

pub decisions_by-append : (xs ys : List Entry) → decisions_by (xs ++ ys) ≡ decisions_by xs ++ decisions_by ys
decisions_by-append [] ys = refl
decisions_by-append (x ∷ xs) ys = ap (λ (ds : List ExternalizedValue). decisions_in x ++ ds) (decisions_by-append xs ys) ∙ sym (append_assoc (decisions_in x) (decisions_by xs) (decisions_by ys))

-- from a number that has an entry on: that entry's, and those from the next number on
pub decisions_from-next : (entries : List Entry) (n : ℕ) → n < length entries → decisions_from entries n ≡ decisions_at entries n ++ decisions_from entries (suc n)
decisions_from-next [] n within = absurd (omega (arith, within))
decisions_from-next (x ∷ xs) zero within = refl
decisions_from-next (x ∷ xs) (suc n) within = decisions_from-next xs n (omega (arith, within))

-- with an entry more
pub decisions_from-extended : (entries : List Entry) (x : Entry) (n : ℕ) → n ≤ length entries → decisions_from (entries ++ x ∷ []) n ≡ decisions_from entries n ++ decisions_in x
decisions_from-extended entries x zero within = decisions_by-append entries (x ∷ []) ∙ ap (λ (ds : List ExternalizedValue). decisions_by entries ++ ds) (append-nil _)
decisions_from-extended [] x (suc n) within = absurd (omega (arith, within))
decisions_from-extended (y ∷ ys) x (suc n) within = decisions_from-extended ys x n (omega (arith, within))
