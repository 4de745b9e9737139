use Rattle.std.proofs.Common.{◌∙◌, List, ℕ, Option, ap, arith, flat_map, length, option_to_list}
use Rattle.scp_types.specs.declared.statement.Statement.{Statement}
use Rattle.scp_voting.specs.Searching.{better_under, next_under}
use Rattle.scp_spec.specs.Rows.{row}
use Rattle.scp_voting.specs.Mentions.{mentioned_by, mentioned_in}
use Rattle.node_view.specs.Watching.{rows_of_others, said_by_another}
use Rattle.node_view.proofs.Searches.{best_ends, best_goes_on}
use Rattle.node_view.proofs.unlisted.mentioned_in_rows.Goals as goal

pub loop-place-preserved : goal.loop-place-preserved
loop-place-preserved g c =
    let rows = c.args.rows.now in
    let bound = c.args.bound.now in
    let before = c.loop-place in
    let said : ℕ → Option Statement = λ u. said_by_another c.args.own.now (row rows.table u rows.kind) in
    best_goes_on said rows.nodes before.place (mentioned_by c.args.mention) before.best bound c.mentioned_with-best.result (next_under bound (mentioned_in c.args.mention (rows_of_others c.args.own.now rows.kind rows.table rows.nodes)))
    (omega (arith, c.loop-place-test.true, ap (λ (us : List ℕ). length us) c.nodes-place-end.ensures))
    (c.mentioned_with-best.ensures ∙ ap (λ (o : Option Statement). better_under before.best bound (flat_map (mentioned_by c.args.mention) (option_to_list o))) c.said_by_another.ensures)
    before.invariant

pub returns : goal.returns
returns g c =
    let rows = c.args.rows.now in
    let last = c.loop-place in
    let said : ℕ → Option Statement = λ u. said_by_another c.args.own.now (row rows.table u rows.kind) in
    best_ends said rows.nodes last.place (mentioned_by c.args.mention) last.best c.args.bound.now (next_under c.args.bound.now (mentioned_in c.args.mention (rows_of_others c.args.own.now rows.kind rows.table rows.nodes)))
    (omega (arith, c.loop-place-test.false, ap (λ (us : List ℕ). length us) c.nodes-place-end.ensures)) last.invariant
