-- What is emitted, and what the parts of a node's outs are.
use Rattle.std.proofs.Common.{◌≡◌, ℕ, ◌<◌, Bool, true, ◌||◌, nat_lt, length, List, [], ◌∷◌, Option, Some, None, if◌then◌else◌, refl, sym, ◌∙◌, ap, ap₂, inl, inr, arith}
use Rattle.std.proofs.lemmas.Bool.{cases_Bool}
use Rattle.std.proofs.lemmas.Bool.Decides.{nat_tests}
use Rattle.scp_types.specs.declared.event.Out.TheVariants.{Emit}
use Rattle.scp_types.specs.declared.state.Votes.{Votes}
use Rattle.scp_types.specs.declared.statement.Statement.{Statement}
use Rattle.scp_types.specs.declared.statement.Statement.TheVariants.{Nominate}
use Rattle.scp_spec.specs.Sameness.{same_sent}
use Rattle.scp_spec.specs.States.{sent_nomination}
use Rattle.scp_spec.proofs.Equality.Sameness.{same_sent-refl, same_sent-true}
use Rattle.node_view.specs.declared.configured.Configured.{Configured}
use Rattle.node_core.specs.NodeParts.{sent_by, emitted_by}

-- the same statement is not sent again
pub emitted-same : (c : Configured) (old new : Option Statement) → old ≡ new → emitted_by c old new ≡ []
emitted-same c old new e = ap (λ o. emitted_by c o new) e ∙ go new
  where
    go : (o : Option Statement) → emitted_by c o o ≡ []
    go None = refl
    go (Some s) = ap (λ b. if b then [] else Emit (sent_by c s) ∷ []) (same_sent-refl (Some s))

-- another is
pub emitted-other : (c : Configured) (old : Option Statement) (s : Statement) → (old ≡ Some s → ⊥) → emitted_by c old (Some s) ≡ Emit (sent_by c s) ∷ []
emitted-other c old s other = elim (cases_Bool (same_sent old (Some s))) [
  | inl e ↦ absurd (other (same_sent-true old (Some s) e))
  | inr e ↦ ap (λ b. if b then [] else Emit (sent_by c s) ∷ []) e
]

-- ---- nominations
-- what is sent tells the sets
sets_of : Option Statement → List (List ℕ) × List (List ℕ)
sets_of (Some (Nominate v a)) = (v, a)
sets_of _ = ([], [])

tested : (n : ℕ) → 0 < n → nat_lt 0 n ≡ true
tested n h = grind (arith, nat_tests)

some-values : (x : List ℕ) (xs : List (List ℕ)) → nat_lt 0 (length (x ∷ xs)) ≡ true
some-values x xs = tested (length (x ∷ xs)) (omega arith)

sets-sent : (w : Votes) → sets_of (sent_nomination w) ≡ (w.voted, w.accepts)
unfolding sent_nomination sets_of
sets-sent w = go w.voted w.accepts
  where
    go : (v a : List (List ℕ)) → sets_of (if nat_lt 0 (length v) || nat_lt 0 (length a) then Some (Nominate v a) else None) ≡ (v, a)
    go [] [] = refl
    go [] (y ∷ ys) = ap (λ (b : Bool). sets_of (if b then Some (Nominate [] (y ∷ ys)) else None)) (some-values y ys)
    go (x ∷ xs) a = ap (λ (b : Bool). sets_of (if b || nat_lt 0 (length a) then Some (Nominate (x ∷ xs) a) else None)) (some-values x xs)

-- votes with the same sets send the same nomination
pub nomination-same : (u w : Votes) → u.voted ≡ w.voted → u.accepts ≡ w.accepts → sent_nomination u ≡ sent_nomination w
unfolding sent_nomination
nomination-same u w voted accepts = ap₂ (λ (v a : List (List ℕ)). if nat_lt 0 (length v) || nat_lt 0 (length a) then Some (Nominate v a) else None) voted accepts

-- and those that send the same have the same sets
pub nomination-sets : (u w : Votes) → sent_nomination u ≡ sent_nomination w → (u.voted ≡ w.voted) × (u.accepts ≡ w.accepts)
nomination-sets u w e =
    let both : (u.voted, u.accepts) ≡ (w.voted, w.accepts) = sym (sets-sent u) ∙ ap sets_of e ∙ sets-sent w in
    (ap (λ (p : List (List ℕ) × List (List ℕ)). p.0) both, ap (λ (p : List (List ℕ) × List (List ℕ)). p.1) both)
