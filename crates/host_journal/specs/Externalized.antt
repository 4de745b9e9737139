-- What hosted nodes have externalized at open slots.
use Rattle.std.specs.Prelude.{ℕ, List, Option, None, option_and_then, option_map}
use Rattle.scp_types.specs.declared.ballot.Ballot.{Ballot}
use Rattle.scp_types.specs.declared.state.Phase.{Phase}
use Rattle.scp_types.specs.declared.state.Phase.TheVariants.{Preparing, Committing, Externalized}
use Rattle.scp_spec.specs.Networks.{Net}
use Rattle.host_network.specs.Standing.{node_at}

-- what a node in this phase with this ballot has externalized: the value of the ballot
abbrev pub externalized_by : Phase → Option Ballot → Option (List ℕ)
externalized_by Preparing b = None
externalized_by Committing b = None
externalized_by Externalized b = option_map (λ x. x.value) b

-- what the node of a name has externalized at a slot; nothing if the slot is not open or the node is not hosted
abbrev pub externalized_at : Net → ℕ → ℕ → Option (List ℕ)
externalized_at net i u = option_and_then (λ n. externalized_by n.votes.phase n.votes.ballot) (node_at net i u)
