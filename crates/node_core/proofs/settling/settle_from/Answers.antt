use Rattle.std.proofs.Common.{Option, Some, unwrap_or, sym, ap, subst, ◌∙◌}
use Rattle.scp_types.specs.declared.state.Votes.{Votes}
use Rattle.node_core.specs.Differences.{IsDifference}
use Rattle.node_core.specs.Stirrings.{part_of_pass}
use Rattle.node_core.proofs.StirredPasses.{no-arm}
use Rattle.node_core.proofs.settling.settle_from.Goals as goal

pub returns-in_default : goal.returns-in_default
returns-in_default g c =
    let w = c.args.votes.now in
    let seen = g.S.Sight.seen c.args.context.now.sight.now in
    let same = subst (IsDifference w (part_of_pass c.args.stirred c.args.context.now.own.now seen c.args.context.now.inputs.now w)) c.in_default.is c.in_ok-change_by.ensures in
    no-arm c.args.stirred c.args.context.now.own.now seen c.args.context.now.inputs.now w c.requires.stirs same ∙ ap (λ (o : Option Votes). Some (unwrap_or o w)) (sym c.in_default.is)
