use Rattle.std.proofs.Common.{option_to_list}
use Rattle.scp_voting.specs.Mentions.{mentioned_by, mentioned_in}
use Rattle.node_view.specs.Watching.{rows_of_others}
use Rattle.node_view.proofs.Leaving.{three_left}
use Rattle.node_view.proofs.reached_ballots.leave_mentioned.Goals as goal

pub returns : goal.returns
returns g c =
    let rows = c.args.rows.now in
    let mention = c.args.mention in
    let b = c.statement_ballots-ballots.result in
    three_left (mentioned_in mention (rows_of_others c.args.own.now rows.kind rows.table rows.nodes))
    c.args.listed.now c.unless_mentioned.new.listed c.unless_mentioned-2.new.listed c.unless_mentioned-3.new.listed
    (option_to_list b.first) (option_to_list b.second) (option_to_list b.third)
    (mentioned_by mention c.args.before.now)
    c.statement_ballots-ballots.ensures c.unless_mentioned.ensures c.unless_mentioned-2.ensures c.unless_mentioned-3.ensures
