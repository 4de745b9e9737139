use Rattle.std.proofs.Common.{option_to_list}
use Rattle.scp_voting.specs.Mentions.{mentioned_by}
use Rattle.node_view.proofs.ListedLaws.{three_listed}
use Rattle.node_view.proofs.listed.ListedBallots.add_mentioned.Goals as goal

pub returns : goal.returns
returns c =
    let b = c.statement_ballots-ballots.result in
    three_listed c.add_if-3.result c.args.self.now c.add_if.new.self c.add_if-2.new.self c.add_if-3.new.self
    (option_to_list b.first) (option_to_list b.second) (option_to_list b.third)
    (mentioned_by c.args.mention c.args.statement.now)
    c.statement_ballots-ballots.ensures c.in_ok-add_if.ensures c.in_ok-add_if-2.ensures c.add_if-3.ensures
