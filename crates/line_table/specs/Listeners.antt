-- A listener with its own archive, as contracts see it: who asks, and the rows of the envelopes that were taken.
use Rattle.std.specs.Prelude.{List}
use Rattle.scp_types.specs.declared.ballot.Ballot.{Ballot}
use Rattle.scp_types.specs.declared.kind.Kind.{Kind}
use Rattle.scp_types.specs.Statements.{Sent}
use Rattle.scp_spec.specs.Satisfaction.{sat}
use Rattle.scp_spec.specs.Quorums.{HasQuorum}
use Rattle.scp_spec.specs.Backing.{slices_by, backing_prepare}
use Rattle.node_view.specs.declared.configured.Configured.{Configured}

-- one node at one slot with its configured slices, and the rows that it has
pub record HeardRows : Type 0 where
  pub configured : Configured
  pub rows : List Sent

-- the node is in a quorum whose ballot rows all vote for or accept that the ballot is prepared
abbrev pub IsBacked : HeardRows → Ballot → Type 0
IsBacked h b =
    HasQuorum sat (slices_by h.configured.name h.configured.slices h.rows Kind.Ballot) (backing_prepare h.rows b) h.configured.name
