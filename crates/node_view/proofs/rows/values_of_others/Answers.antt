use Rattle.std.proofs.Common.{◌∙◌, ℕ, Option, ap, arith, flat_map, option_to_list}
use Rattle.scp_types.specs.declared.statement.Statement.{Statement}
use Rattle.scp_spec.specs.Candidates.{all_with, values_by}
use Rattle.scp_spec.specs.Rows.{row}
use Rattle.node_view.specs.Watching.{rows_of_others, said_by_another, values_in}
use Rattle.node_view.proofs.Gathering.{place_before}
use Rattle.node_view.proofs.rows.values_of_others.Goals as goal

pub loop-place-preserved : goal.loop-place-preserved
loop-place-preserved g c =
    let rows = c.args.rows.now in
    let before = c.loop-place in
    let said : ℕ → Option Statement = λ u. said_by_another c.args.own.now (row rows.table u rows.kind) in
    record {
      within = omega (arith, before.invariant.within);
      so_far = place_before said rows.nodes before.place before.values c.insert_said.new.values (values_in (rows_of_others c.args.own.now rows.kind rows.table rows.nodes)) c.loop-place-test.true before.invariant.within
          (c.in_ok-insert_said.ensures ∙ ap (λ (o : Option Statement). all_with (flat_map values_by (option_to_list o)) before.values) c.said_by_another.ensures) before.invariant.so_far;
    }
