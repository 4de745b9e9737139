use Rattle.scp_types.specs.Trees.{weight_of}
use Rattle.scp_types.specs.Shape.{members_of}
use Rattle.scp_types.proofs.nested.+are_same.Given as goal

abbrev pub decreases-are_same : goal.decreases-are_same
decreases-are_same l = weight_of (members_of l.members.now)
