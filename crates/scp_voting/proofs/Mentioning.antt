-- Statements that speak of the same ballots in either way.
use Rattle.std.proofs.Common.{◌≡◌, ℕ, List, [], ◌∷◌, refl}
use Rattle.scp_types.specs.declared.ballot.Ballot.{Ballot}
use Rattle.scp_types.specs.declared.statement.Statement.TheVariants.{Nominate, Externalize}
use Rattle.scp_spec.specs.States.{ballot_with}
use Rattle.scp_voting.specs.declared.mention.Mention.{Mention}
use Rattle.scp_voting.specs.declared.mention.Mention.TheVariants.{Committed, Named}
use Rattle.scp_voting.specs.Mentions.{mentioned_by}

-- a nomination speaks of none
pub none_nominated : (mention : Mention) (voted accepted : List (List ℕ)) → [] ≡ mentioned_by mention (Nominate voted accepted)
none_nominated Named voted accepted = refl
none_nominated Committed voted accepted = refl

-- an EXTERNALIZE of the two ends of what is committed
pub both_externalized : (mention : Mention) (b : Ballot) (high : ℕ) → ballot_with b.counter b.value ∷ ballot_with high b.value ∷ [] ≡ mentioned_by mention (Externalize b high)
both_externalized Named b high = refl
both_externalized Committed b high = refl
