-- Arming the ballot timer, as a draft shows it.
use Rattle.std.proofs.Common.{◌≡◌, Bool, true, false, Some, if◌then◌else◌, sym, ap, subst, ◌∙◌}
use Rattle.scp_types.specs.declared.ballot.Ballot.{Ballot}
use Rattle.scp_types.specs.declared.kind.Kind.{Kind}
use Rattle.scp_types.specs.declared.state.Votes.{Votes}
use Rattle.node_rules.specs.Drafted.{Drafted, after}
use Rattle.scp_spec.specs.Views.{Seen, passes}
use Rattle.scp_spec.specs.Passes.{arm, has_counter, on_ballot}
use Rattle.scp_spec.specs.States.{position}
use Rattle.node_rules.proofs.PreparedLaws.{by-ballot}

-- by the answer whether there is a quorum
pub arm-by : (seen : Seen) (b : Ballot) (w : Votes) (q : Bool) (d : Drafted) → w ≡ d.now → w.ballot ≡ Some b → q ≡ seen.quorum Kind.Ballot (passes (has_counter b.counter) (position w)) (has_counter b.counter)
    → (if q then after (λ v. record v { armed = b.counter }) d else d) ≡ after (on_ballot (arm seen)) d
unfolding arm
arm-by seen b w q d now is found =
    let P : Votes → Type 0 = λ u. (if q then record u { armed = b.counter } else u) ≡ on_ballot (arm seen) u in
    let at : P w = ap (λ t. if t then record w { armed = b.counter } else w) found ∙ sym (by-ballot (arm seen) w b is) in
    go q (subst P now at)
  where
    go : (q : Bool) → (if q then record d.now { armed = b.counter } else d.now) ≡ on_ballot (arm seen) d.now → (if q then after (λ v. record v { armed = b.counter }) d else d) ≡ after (on_ballot (arm seen)) d
    go true e = ap (λ u. record d { now = u }) e
    go false e = ap (λ u. record d { now = u }) e
