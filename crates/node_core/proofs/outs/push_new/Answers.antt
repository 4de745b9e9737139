use Rattle.std.proofs.Common.{◌∙◌, ◌++◌, ◌∷◌, [], List, Option, sym, ap}
use Rattle.scp_types.specs.declared.event.Out.{Out}
use Rattle.scp_types.specs.declared.event.Out.TheVariants.{Emit}
use Rattle.scp_types.specs.declared.statement.Statement.{Statement}
use Rattle.node_core.specs.NodeParts.{emitted_by}
use Rattle.node_core.proofs.Emissions.{emitted-other}
use Rattle.node_core.proofs.outs.push_new.Goals as goal

pub returns-in_ok-push-in-Some : goal.returns-in_ok-push-in-Some
returns-in_ok-push-in-Some c = λ before other.
    let xs = c.args.given_out.now.items in
    let s = c.in-Some.statement in
    c.in_ok-push-in-Some.ensures.items
    ∙ ap (λ e. xs ++ Emit e ∷ []) c.in_ok-envelope-in-Some.ensures
    ∙ ap (λ (ys : List Out). xs ++ ys) (sym (emitted-other c.args.configured.now before s (λ e. other (e ∙ sym c.in-Some.is))))
    ∙ ap (λ (o : Option Statement). xs ++ emitted_by c.args.configured.now before o) (sym c.in-Some.is)
