-- A node is calm where one more pass changes nothing: a fresh one is, and each step keeps it so. `Passes`, `Runs` and
-- other files of `Nodes` stand on it.
use Rattle.scp_types.specs.declared.event.NodeEvent.{NodeEvent}
use Rattle.std.proofs.Common.{◌≡◌, ℕ, zero, suc, Bool, true, false, Option, Some, None, if◌then◌else◌, refl, ◌∙◌, ap, subst}
use Rattle.scp_types.specs.declared.state.Votes.{Votes}
use Rattle.scp_spec.specs.Passes.{pass, pass_rules, voting, counting}
use Rattle.scp_spec.specs.Sameness.{same_votes}
use Rattle.scp_spec.specs.Nodes.{Node, after_pass, settle, change, with_settled_votes, after_change, step, Calm, fresh, most_passes}
use Rattle.scp_spec.proofs.Equality.Sameness.{same_votes-refl, same_votes-true}
use Rattle.scp_spec.proofs.Nodes.Made.{node_and_outs-node, if_node}
use Rattle.scp_types.specs.Trees.{Slices}
use Rattle.scp_spec.specs.Views.{seen, rows_seen, led_by}
use Rattle.scp_spec.specs.States.{position}
use Rattle.scp_spec.specs.Candidates.{with_up_to_sixteen, combine, greatest, named_ballots}
use Rattle.scp_spec.specs.Nominating.{nominate, confirm_values, accept_values, echo}
use Rattle.scp_spec.specs.Balloting.{with_first_ballot, start}

-- a fresh node is
pub fresh-calm : (slot v : ℕ) (q : Slices) → Calm (fresh slot v q)
unfolding fresh pass pass_rules voting counting nominate confirm_values accept_values echo with_up_to_sixteen with_first_ballot start combine greatest named_ballots position seen rows_seen led_by
fresh-calm slot v q = refl

-- votes that a pass leaves as they are settle at once
pub settle-still : (k : ℕ) (f : Votes → Votes) (w : Votes) → f w ≡ w → settle (suc k) f w ≡ Some w
unfolding settle
settle-still k f w e =
    ap (λ b. if b then Some w else settle k f (f w)) (ap (λ x. same_votes x w) e ∙ same_votes-refl w)

-- settling ends where one more pass changes nothing
settle-calm : (k : ℕ) (f : Votes → Votes) (w : Votes) (u : Votes) → settle k f w ≡ Some u → f u ≡ u
unfolding settle
settle-calm zero f w u h = cc
settle-calm (suc k) f w u h = go (same_votes (f w) w) refl h (settle-calm k f (f w) u)
  where
    go : (b : Bool) → same_votes (f w) w ≡ b → (if b then Some w else settle k f (f w)) ≡ Some u
        → (settle k f (f w) ≡ Some u → f u ≡ u) → f u ≡ u
    go true e s ih = let p : w ≡ u = cc in subst (λ x. f x ≡ x) p (same_votes-true (f w) w e)
    go false e s ih = ih s

calm-settled : (o : Option Node) → if_node Calm (after_change o)
calm-settled None = tt
calm-settled (Some n) = go (settle most_passes (after_pass n) n.votes) refl
  where
    go : (o : Option Votes) → settle most_passes (after_pass n) n.votes ≡ o → if_node Calm (with_settled_votes n o)
    go None e = tt
    go (Some w) e = settle-calm most_passes (after_pass n) n.votes w e

-- calm is kept by each step
pub calm-step : (n : Node) (e : NodeEvent) → Calm n → Calm (step n e).0
unfolding step
calm-step n e c = node_and_outs-node Calm n (after_change (change n e)) c (calm-settled (change n e))
