-- Claims on which nodes vote, and what is asked of statements in federated voting.
use Rattle.std.specs.Prelude.{Bool}
use Rattle.scp_types.specs.declared.kind.Kind.{Kind}
use Rattle.scp_types.specs.declared.kind.Kind.TheVariants.{Nomination}
use Rattle.scp_types.specs.declared.statement.Statement.{Statement}
use Rattle.scp_types.specs.Votes.{accepts_prepare, votes_or_accepts_prepare, accepts_ends, votes_or_accepts_ends, accepts_nominate, votes_or_accepts_nominate}
use Rattle.scp_spec.specs.Passes.{has_counter}
use Rattle.scp_voting.specs.declared.claim.Claim.{Claim}
use Rattle.scp_voting.specs.declared.claim.Claim.TheVariants.{Prepare, Commit, Nominate}
use Rattle.scp_voting.specs.declared.question.Question.{Question}
use Rattle.scp_voting.specs.declared.question.Question.TheVariants.{Backs, Accepts, HasCounter}

-- the kind of the statements that speak of a claim
abbrev pub kind_of_claim : Claim → Kind
kind_of_claim (Prepare t) = Kind.Ballot
kind_of_claim (Commit x low high) = Kind.Ballot
kind_of_claim (Nominate x) = Nomination

-- whether a statement votes for or accepts a claim
abbrev pub backs : Claim → Statement → Bool
backs (Prepare t) = λ s. votes_or_accepts_prepare s t
backs (Commit x low high) = λ s. votes_or_accepts_ends s x low high
backs (Nominate x) = λ s. votes_or_accepts_nominate s x

-- whether a statement accepts a claim
abbrev pub accepts : Claim → Statement → Bool
accepts (Prepare t) = λ s. accepts_prepare s t
accepts (Commit x low high) = λ s. accepts_ends s x low high
accepts (Nominate x) = λ s. accepts_nominate s x

-- whether a statement passes what is asked: whether it backs a claim, accepts one, or how far its ballot is
abbrev pub asks : Question → Statement → Bool
asks (Backs claim) = backs claim.now
asks (Accepts claim) = accepts claim.now
asks (HasCounter n) = has_counter n

-- the kind of the statements that are asked
abbrev pub kind_asked : Question → Kind
kind_asked (Backs claim) = kind_of_claim claim.now
kind_asked (Accepts claim) = kind_of_claim claim.now
kind_asked (HasCounter n) = Kind.Ballot
