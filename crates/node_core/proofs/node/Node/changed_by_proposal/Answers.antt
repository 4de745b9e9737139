use Rattle.std.proofs.Common.{ap}
use Rattle.node_core.proofs.Answered.{change-propose, node_in}
use Rattle.node_core.proofs.node.Node.changed_by_proposal.Goals as goal

pub returns : goal.returns
returns c =
    let i = c.self.inside in
    change-propose c.configuration.result.now i.listener i.inputs i.votes c.args.self.now.node c.args.value c.in_ok-changed.changed (ap node_in c.self.view_is) c.configuration.ensures c.in_ok-changed.ensures
