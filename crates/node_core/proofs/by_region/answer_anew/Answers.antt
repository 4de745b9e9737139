use Rattle.std.proofs.Common.{Option, unwrap_or, sym, ap, ◌∙◌}
use Rattle.scp_types.specs.declared.state.Votes.{Votes}
use Rattle.scp_spec.specs.Nodes.{outs}
use Rattle.scp_spec.proofs.Nodes.Quiet.{outs-none}
use Rattle.node_core.specs.NodeParts.{node_from_parts}
use Rattle.node_core.proofs.by_region.answer_anew.Goals as goal

pub returns-in_default-clause-outs : goal.returns-in_default-clause-outs
returns-in_default-clause-outs g c = λ before after.
    let n = node_from_parts c.args.listener.now.configured c.args.start.now.inputs.now c.args.start.now.votes.now before in
    c.nothing.ensures.outs ∙ sym (outs-none n after) ∙ ap (λ (o : Option Votes). outs n (node_from_parts c.args.listener.now.configured c.args.start.now.inputs.now (unwrap_or o c.args.start.now.votes.now) after)) (sym c.in_default.is)
