-- What votes may be sent: sets that a nomination may have, and a ballot with its interval that a statement may have.
-- `Nodes` stands on it.
use Rattle.std.proofs.Common.{ℕ, ◌≤◌, Option}
use Rattle.std.specs.Prelude.{IfSome}
use Rattle.scp_types.specs.declared.ballot.Ballot.{Ballot}
use Rattle.scp_types.specs.declared.state.Phase.{Phase}
use Rattle.scp_types.specs.declared.state.Phase.TheVariants.{Preparing, Committing, Externalized}
use Rattle.scp_types.specs.declared.state.Votes.{Votes}
use Rattle.scp_types.specs.Nominations.{IsNominationSet}
use Rattle.scp_spec.specs.States.{counter_of}
use Rattle.scp_spec.proofs.Ballots.Above.{Under}

-- in PREPARE the highest confirmed ballot is not above the ballot, and there is none without a ballot; later the
-- interval is ordered, and in COMMIT it is up to the ballot
abbrev pub IsPlaced : Phase → Option Ballot → Option Ballot → ℕ → ℕ → Type 0
IsPlaced Preparing ballot confirmed_prepared low high = Under confirmed_prepared ballot
IsPlaced Committing ballot confirmed_prepared low high = (1 ≤ low) × ((low ≤ high) × (high ≤ counter_of ballot))
IsPlaced Externalized ballot confirmed_prepared low high = (1 ≤ low) × (low ≤ high)

-- what is kept, where so many ballot timers have fired
pub record IsSendable (timeouts : ℕ) (w : Votes) : Type 0 where
  pub voted : IsNominationSet w.voted
  pub accepts : IsNominationSet w.accepts
  pub timers : timeouts ≤ counter_of w.ballot
  pub counted : IfSome w.ballot (λ b. 1 ≤ b.counter)
  pub placed : IsPlaced w.phase w.ballot w.confirmed_prepared w.low w.high
