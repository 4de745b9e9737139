-- The general form of federated voting, and what a node takes as accepted and confirmed by what it sees.
use Rattle.std.specs.Prelude.{◌≡◌, ℕ, Bool, List, Option, IsTrue, ◌↔◌}
use Rattle.scp_types.specs.Trees.{Slices}
use Rattle.scp_types.specs.Statements.{Sent}
use Rattle.scp_types.specs.declared.kind.Kind.{Kind}
use Rattle.scp_types.specs.declared.statement.Statement.{Statement}
use Rattle.scp_spec.specs.Satisfaction.{sat}
use Rattle.scp_spec.specs.Backing.{slices_by}
use Rattle.scp_spec.specs.Views.{accepted, confirmed, seen}
use Rattle.scp_voting.specs.Seeing.{standing}
use Rattle.scp_voting.specs.Voting.{Accepted, Confirmed}

-- whatever answers exactly by federated voting over the rows of a table answers what is accepted by what a node sees
abbrev pub AcceptedAlike : Type 0
AcceptedAlike =
    (own : ℕ) (configured : Slices) (leaders : List ℕ) (table : List Sent) (kind : Kind) (position : Option Statement) (backs accepts : Statement → Bool) (b : Bool)
    → IsTrue b ↔ Accepted sat (slices_by own configured table kind) (standing own table kind position backs) (standing own table kind position accepts) own
    → b ≡ accepted (seen own configured leaders table) kind position backs accepts

-- whatever answers exactly by federated voting over the rows of a table answers what is confirmed by what a node sees
abbrev pub ConfirmedAlike : Type 0
ConfirmedAlike =
    (own : ℕ) (configured : Slices) (leaders : List ℕ) (table : List Sent) (kind : Kind) (position : Option Statement) (accepts : Statement → Bool) (b : Bool)
    → IsTrue b ↔ Confirmed sat (slices_by own configured table kind) (standing own table kind position accepts) own
    → b ≡ confirmed (seen own configured leaders table) kind position accepts
