use Rattle.std.proofs.Common.{ap, subst}
use Rattle.scp_spec.specs.Limits.{ComesOfEvents}
use Rattle.scp_spec.proofs.Nodes.Lawful.{calm-of-events}
use Rattle.node_core.proofs.Answered.{node_in}
use Rattle.node_core.proofs.node.Node.calm.Goals as goal

pub returns : goal.returns
returns c = calm-of-events (subst ComesOfEvents (ap node_in c.self.view_is) c.self.invariant)
