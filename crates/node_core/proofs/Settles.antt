-- One of so many passes, as the loop makes it.
use Rattle.std.proofs.Common.{◌≡◌, ℕ, suc, ◌+◌, ◌-◌, ◌<◌, true, Some, None, if◌then◌else◌, refl, ap, subst, ◌∙◌, inl, inr, arith}
use Rattle.std.proofs.lemmas.Bool.{cases_Bool}
use Rattle.scp_types.specs.declared.state.Phase.{Phase}
use Rattle.scp_types.specs.declared.state.Phase.TheVariants.{Externalized}
use Rattle.scp_types.specs.declared.state.Inputs.{Inputs}
use Rattle.scp_types.specs.declared.state.Votes.{Votes}
use Rattle.scp_spec.specs.Nodes.{settle, most_passes}
use Rattle.scp_spec.specs.Passes.{pass, pass_rules, while_open}
use Rattle.scp_spec.specs.Sameness.{same_votes}
use Rattle.scp_spec.specs.Views.{Seen}
use Rattle.scp_spec.proofs.Equality.Sameness.{same_votes-refl, same_votes-true}

one : (n : ℕ) (f : Votes → Votes) (w : Votes) → settle (suc n) f w ≡ (if same_votes (f w) w then Some w else settle n f (f w))
unfolding settle
one n f w = refl

settle-step : (i : ℕ) (f : Votes → Votes) (w : Votes) → i < most_passes → settle (most_passes - i) f w ≡ (if same_votes (f w) w then Some w else settle (most_passes - (i + 1)) f (f w))
settle-step i f w h = subst (λ n. settle n f w ≡ (if same_votes (f w) w then Some w else settle (most_passes - (i + 1)) f (f w))) (omega arith) (one (most_passes - (i + 1)) f w)

-- a pass that changes nothing is the last
pub settle-same : (i : ℕ) (f : Votes → Votes) (w : Votes) → i < most_passes → f w ≡ w → settle (most_passes - i) f w ≡ Some w
settle-same i f w h e = let same : same_votes (f w) w ≡ true = ap (λ (u : Votes). same_votes u w) e ∙ same_votes-refl w in settle-step i f w h ∙ rw same refl

-- after every other pass those that are left go on
pub settle-other : (i : ℕ) (f : Votes → Votes) (w : Votes) → i < most_passes → (f w ≡ w → ⊥) → settle (most_passes - i) f w ≡ settle (most_passes - (i + 1)) f (f w)
settle-other i f w h other = elim (cases_Bool (same_votes (f w) w)) [
  | inl e ↦ absurd (other (same_votes-true (f w) w e))
  | inr e ↦ settle-step i f w h ∙ rw e refl
]

-- no pass is left
pub settle-end : (f : Votes → Votes) (w : Votes) → settle (most_passes - most_passes) f w ≡ None
unfolding settle
settle-end f w = refl

-- after EXTERNALIZE none changes anything
over-stays : (own : ℕ) (seen : Seen) (inputs : Inputs) (w : Votes) → w.phase ≡ Externalized → pass own seen inputs w ≡ w
unfolding pass
over-stays own seen inputs w over = ap (λ (p : Phase). while_open p (pass_rules own seen inputs) w) over

pub over_settles : (w : Votes) → w.phase ≡ Externalized → (own : ℕ) (seen : Seen) (inputs : Inputs) → settle most_passes (pass own seen inputs) w ≡ Some w
over_settles w over own seen inputs = settle-same 0 (pass own seen inputs) w (omega arith) (over-stays own seen inputs w over)
