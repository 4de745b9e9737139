use Rattle.std.specs.Arc.{arc_slice_items}
use Rattle.std.proofs.Common.{◌∙◌, IfSome, IsTrue, Option, Some, subst, sym}
use Rattle.scp_types.specs.declared.kind.Kind.TheVariants.{Nomination}
use Rattle.node_view.specs.Knowing.{AreValuesOf, IsTaken, is_heard}
use Rattle.node_view.specs.Watching.{RowsOfNodes}
use Rattle.node_view.specs.declared.reached_values.ReachedValues.{ReachedValues}
use Rattle.node_view.proofs.known_reach.KnownReach.follow_values.Goals as goal

pub returns-in-Ok-clause-values : goal.returns-in-Ok-clause-values
returns-in-Ok-clause-values g c = λ old row taken are.
    let own = c.args.own.name.now in
    let nodes = (arc_slice_items c.args.self.now.region.nodes) in
    let e = c.args.row.now in
    let before = c.in-Some.values in
    let there : IfSome (Some before) (λ v. AreValuesOf own old nodes v) = subst (λ (o : Option ReachedValues). IfSome o (λ v. AreValuesOf own old nodes v)) (sym c.take.ensures.value ∙ c.in-Some.is) are in
    subst (λ (k : RowsOfNodes). IsTrue (is_heard Nomination own k.nodes e) → IsTaken old k.table e row → AreValuesOf own old k.nodes before → AreValuesOf own k.table k.nodes c.add-added.new.self) c.rows-rows.ensures
    (c.in-Ok.ensures old row) c.requires.heard taken there
