-- How far a claim has come by federated voting.
use Rattle.std.specs.Prelude.{Bool, Option}
use Rattle.scp_types.specs.declared.statement.Statement.{Statement}
use Rattle.scp_spec.specs.Views.{Seen, accepted, confirmed}
use Rattle.scp_voting.specs.declared.claim.Claim.{Claim}
use Rattle.scp_voting.specs.Questions.{accepts, backs, kind_of_claim}
use Rattle.node_rules.specs.declared.checks.Stage.{Stage}
use Rattle.node_rules.specs.declared.checks.Stage.TheVariants.{Accepted, Confirmed}

-- a node in this position accepts a claim, or it confirms it
abbrev pub has_come_to : Stage → Seen → Option Statement → Claim → Bool
has_come_to Accepted seen own claim = accepted seen (kind_of_claim claim) own (backs claim) (accepts claim)
has_come_to Confirmed seen own claim = confirmed seen (kind_of_claim claim) own (accepts claim)
