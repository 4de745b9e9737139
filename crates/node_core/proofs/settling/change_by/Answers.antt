use Rattle.std.proofs.Common.{◌≡◌, ◌∙◌, unwrap_or, ap, subst}
use Rattle.scp_types.specs.declared.state.Votes.{Votes}
use Rattle.node_rules.specs.Drafted.{Drafted, after}
use Rattle.node_core.specs.Differences.{IsDifference}
use Rattle.node_core.specs.Stirrings.{part_of_pass}
use Rattle.node_core.proofs.settling.change_by.Goals as goal

pub returns-in-Ok : goal.returns-in-Ok
returns-in-Ok g c =
    let w = c.args.votes.now in
    let f = part_of_pass c.args.rules c.args.context.now.own.now (g.S.Sight.seen c.args.context.now.sight.now) c.args.context.now.inputs.now in
    let done = c.in-Ok.ensures ∙ ap (after f) c.of-draft.ensures in
    let P : Drafted → Type 0 = λ d. unwrap_or c.into_changed.result d.before ≡ d.now in
    let now : unwrap_or c.into_changed.result w ≡ f w = subst P done c.into_changed.ensures in
    let Q : Votes → Type 0 = λ u. IsDifference w u c.forget_same.new.changed in
    subst Q now c.forget_same.ensures
