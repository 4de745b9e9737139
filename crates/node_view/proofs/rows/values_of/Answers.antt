use Rattle.std.proofs.Common.{◌∙◌, ℕ, Option, ap, flat_map, option_map, option_to_list}
use Rattle.scp_types.specs.Statements.{Sent}
use Rattle.scp_types.specs.declared.statement.Statement.{Statement}
use Rattle.scp_spec.specs.Candidates.{all_with, values_by}
use Rattle.scp_spec.specs.Rows.{row}
use Rattle.node_view.specs.Watching.{rows_by, values_in}
use Rattle.node_view.proofs.Gathering.{node_before}
use Rattle.node_view.proofs.rows.values_of.Goals as goal

pub loop-left-preserved : goal.loop-left-preserved
loop-left-preserved g c =
    let table = c.args.table.now in
    let before = c.loop-left in
    let body : Option Sent → Option Statement = option_map (λ (e : Sent). e.body) in
    let said : ℕ → Option Statement = λ u. body (row table u c.args.kind) in
    let inserted = c.in_ok-insert_said.ensures ∙ ap (λ (o : Option Statement). all_with (flat_map values_by (option_to_list o)) before.values) (c.said_in.ensures ∙ ap body c.row.ensures) in
    let next = node_before said before.left.now c.args.nodes.now c.node-item.result before.values c.insert_said.new.values (values_in (rows_by c.args.kind table c.args.nodes.now)) c.in-len1-up.len_at_least c.node-item.is
    before.invariant.within inserted before.invariant.so_far in
    record { within = next.0; so_far = next.1 }
