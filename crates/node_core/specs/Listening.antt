-- A node of the definitions, from what its listener has.
use Rattle.std.specs.Prelude.{◌≡◌, ℕ, List, []}
use Rattle.scp_types.specs.Statements.{Sent}
use Rattle.scp_types.specs.declared.event.NodeEvent.TheVariants.{Take}
use Rattle.scp_types.specs.declared.state.Inputs.{Inputs}
use Rattle.scp_types.specs.declared.state.Votes.{Votes}
use Rattle.scp_spec.specs.Nodes.{Node, step}
use Rattle.scp_spec.specs.Rows.{table_with_offer}
use Rattle.node_store.specs.declared.filed.Filed.{Filed}
use Rattle.node_store.specs.Archives.{sents_of}
use Rattle.node_view.specs.Listening.{ListenerState}
use Rattle.node_core.specs.NodeParts.{node_from_parts}

-- the node of the definitions, and the rows of its table as they were filed
pub record FiledNode : Type 0 where
  pub node : Node
  pub rows : List Filed

-- the node that a listener is part of, with inputs and votes
abbrev pub node_of : ListenerState → Inputs → Votes → Node
node_of h inputs votes = node_from_parts h.configured inputs votes (sents_of h.table)

-- an envelope of this sender is no more than a row: the table takes it if it is newer than what is there, and nothing
-- else happens
abbrev pub AddsRowAlone : Node → ℕ → Type 0
AddsRowAlone n u = (e : Sent) → e.sender ≡ u → step n (Take e) ≡ (record n { table = table_with_offer n.table e }, [])
