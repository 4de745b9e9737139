-- What the rules take as accepted and confirmed by what a node sees, in the words of federated voting.
use Rattle.std.specs.Prelude.{ℕ, Bool, List, Option, IsTrue, ◌↔◌}
use Rattle.scp_types.specs.Trees.{Slices}
use Rattle.scp_types.specs.Statements.{Sent}
use Rattle.scp_types.specs.declared.kind.Kind.{Kind}
use Rattle.scp_types.specs.declared.statement.Statement.{Statement}
use Rattle.scp_spec.specs.Sets.{Names}
use Rattle.scp_spec.specs.Satisfaction.{sat}
use Rattle.scp_spec.specs.Backing.{slices_by}
use Rattle.scp_spec.specs.Views.{Seen, accepted, confirmed, passes, passing_with, seen}
use Rattle.scp_voting.specs.declared.claim.Claim.{Claim}
use Rattle.scp_voting.specs.Questions.{accepts, backs, kind_of_claim}
use Rattle.scp_voting.specs.Voting.{Accepted, Confirmed}

-- who passes a test: the node itself if its position does, every other node if its row does
abbrev pub standing : ℕ → List Sent → Kind → Option Statement → (Statement → Bool) → Names
standing own table kind position test = passing_with own table kind (passes test position) test

-- what a node sees says that it accepts exactly if it does so by the rows of its table: by some quorum or some
-- blocking set
abbrev pub AcceptedByRows : Type 0
AcceptedByRows =
    (own : ℕ) (configured : Slices) (leaders : List ℕ) (table : List Sent) (kind : Kind) (position : Option Statement) (backs accepts : Statement → Bool)
    → IsTrue (accepted (seen own configured leaders table) kind position backs accepts)
    ↔ Accepted sat (slices_by own configured table kind) (standing own table kind position backs) (standing own table kind position accepts) own

-- what a node sees says that it confirms exactly if it does so by the rows of its table: by some quorum
abbrev pub ConfirmedByRows : Type 0
ConfirmedByRows =
    (own : ℕ) (configured : Slices) (leaders : List ℕ) (table : List Sent) (kind : Kind) (position : Option Statement) (accepts : Statement → Bool)
    → IsTrue (confirmed (seen own configured leaders table) kind position accepts)
    ↔ Confirmed sat (slices_by own configured table kind) (standing own table kind position accepts) own

-- whose table is looked at: the node's name, its slices and its leaders, and the table
pub record Standpoint : Type 0 where
  pub own : ℕ
  pub configured : Slices
  pub leaders : List ℕ
  pub table : List Sent

-- all that a node sees from a standpoint
abbrev pub seen_from : Standpoint → Seen
seen_from at = seen at.own at.configured at.leaders at.table

-- the node, in this position, accepts the claim by the rows of its table: some quorum that contains it all votes for or
-- accepts the claim, or those who accept it block the node's slices
abbrev pub AcceptsClaim : Standpoint → Option Statement → Claim → Type 0
AcceptsClaim at position claim =
    let kind = kind_of_claim claim in
    Accepted sat (slices_by at.own at.configured at.table kind) (standing at.own at.table kind position (backs claim)) (standing at.own at.table kind position (accepts claim)) at.own

-- the node, in this position, confirms the claim by the rows of its table: some quorum that contains it all accepts the
-- claim
abbrev pub ConfirmsClaim : Standpoint → Option Statement → Claim → Type 0
ConfirmsClaim at position claim =
    let kind = kind_of_claim claim in
    Confirmed sat (slices_by at.own at.configured at.table kind) (standing at.own at.table kind position (accepts claim)) at.own
