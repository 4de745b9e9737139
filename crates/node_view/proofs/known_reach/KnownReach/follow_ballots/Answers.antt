use Rattle.std.specs.Arc.{arc_slice_items}
use Rattle.std.proofs.Common.{◌∙◌, Bor, IfSome, Option, Some, option_map, subst, sym}
use Rattle.scp_types.specs.declared.envelope.Envelope.{Envelope}
use Rattle.scp_types.specs.declared.statement.Statement.{Statement}
use Rattle.node_view.specs.Knowing.{AreBallotsOf, IsHeard}
use Rattle.node_view.specs.Watching.{RowsOfNodes}
use Rattle.node_view.specs.declared.reached_ballots.ReachedBallots.{ReachedBallots}
use Rattle.node_view.proofs.known_reach.KnownReach.follow_ballots.Goals as goal

pub returns-in-Ok-clause-ballots : goal.returns-in-Ok-clause-ballots
returns-in-Ok-clause-ballots g c = λ old taken are.
    let own = c.args.own.name.now in
    let nodes = (arc_slice_items c.args.self.now.region.nodes) in
    let table = c.args.table.now in
    let e = c.args.taken.now.row.now in
    let before = c.in-Some.ballots in
    let there : IfSome (Some before) (λ b. AreBallotsOf own old nodes b) = subst (λ (o : Option ReachedBallots). IfSome o (λ b. AreBallotsOf own old nodes b)) (sym c.take.ensures.value ∙ c.in-Some.is) are in
    let said : Option Statement = option_map (λ (s : Bor Statement). s.now) c.said_in-before.result in
    let heard : IsHeard own nodes old table e said = record {
      row = option_map (λ (r : Bor Envelope). r.now) c.args.taken.now.before;
      heard = c.requires.heard;
      taken = taken;
      said = sym c.said_in-before.ensures;
    } in
    subst (λ (k : RowsOfNodes). IsHeard own k.nodes old k.table e said → AreBallotsOf own old k.nodes before → AreBallotsOf own k.table k.nodes c.replace-replaced.new.self) c.rows-rows.ensures
    (c.in-Ok.ensures old) heard there
