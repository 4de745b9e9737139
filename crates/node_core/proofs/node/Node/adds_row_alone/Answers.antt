use Rattle.std.proofs.Common.{◌∙◌, sym, ap}
use Rattle.scp_spec.specs.Nodes.{Node, is_externalized}
use Rattle.node_core.proofs.Answered.{node_in}
use Rattle.node_core.proofs.AddedRows.{over-row, stranger-row, untrue}
use Rattle.node_core.proofs.node.Node.adds_row_alone.Goals as goal

pub returns-then-is_externalized : goal.returns-then-is_externalized
returns-then-is_externalized c = λ h.
    over-row c.args.self.now.node c.args.sender.now (ap (λ (m : Node). is_externalized m.votes.phase) (sym (ap node_in c.self.view_is)) ∙ sym c.is_externalized.ensures ∙ c.if-is_externalized.true)

pub returns-then-is_stranger : goal.returns-then-is_stranger
returns-then-is_stranger c = λ h.
    let i = c.self.inside in
    stranger-row c.args.self.now.node i.listener i.inputs i.votes c.args.sender.now (sym (ap node_in c.self.view_is)) (c.is_stranger.ensures c.if-is_stranger.true) (sym c.leads.ensures ∙ untrue c.leads.result h) c.self.invariant
