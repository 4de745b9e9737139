use Rattle.std.proofs.Common.{◌∙◌, List, ℕ, Option, ap, arith, length, option_to_list}
use Rattle.scp_types.specs.declared.statement.Statement.{Statement}
use Rattle.scp_voting.specs.Searching.{next_counter}
use Rattle.scp_spec.specs.Rows.{row}
use Rattle.node_view.specs.Watching.{lesser_of, rows_of_others, said_by_another}
use Rattle.node_view.proofs.Searches.{least_ends, least_goes_on}
use Rattle.node_view.proofs.searching.next_counter.Goals as goal

pub loop-place-preserved : goal.loop-place-preserved
loop-place-preserved g c =
    let rows = c.args.rows.now in
    let before = c.loop-place in
    let said : ℕ → Option Statement = λ u. said_by_another c.args.own.now (row rows.table u rows.kind) in
    least_goes_on said rows.nodes before.place before.least c.args.above c.lesser_counter-least.result (next_counter c.args.above (rows_of_others c.args.own.now rows.kind rows.table rows.nodes))
    (omega (arith, c.loop-place-test.true, ap (λ (us : List ℕ). length us) c.nodes-place-end.ensures))
    (c.lesser_counter-least.ensures ∙ ap (λ (o : Option Statement). lesser_of before.least (next_counter c.args.above (option_to_list o))) c.said_by_another.ensures)
    before.invariant

pub returns : goal.returns
returns g c =
    let rows = c.args.rows.now in
    let last = c.loop-place in
    let said : ℕ → Option Statement = λ u. said_by_another c.args.own.now (row rows.table u rows.kind) in
    least_ends said rows.nodes last.place last.least c.args.above (next_counter c.args.above (rows_of_others c.args.own.now rows.kind rows.table rows.nodes)) (omega (arith, c.loop-place-test.false, ap (λ (us : List ℕ). length us) c.nodes-place-end.ensures)) last.invariant
