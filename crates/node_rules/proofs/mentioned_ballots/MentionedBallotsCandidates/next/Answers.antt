use Rattle.std.proofs.Common.{◌∙◌, ◌++◌, ap, sym, Option, option_to_list}
use Rattle.scp_types.specs.declared.ballot.Ballot.{Ballot}
use Rattle.scp_types.specs.declared.kind.Kind.{Kind}
use Rattle.scp_types.specs.declared.statement.Statement.{Statement}
use Rattle.scp_voting.specs.Mentions.{mentioned_by, mentioned_in}
use Rattle.scp_voting.specs.Searching.{next_under, better_under}
use Rattle.node_rules.proofs.ChoosingLaws.{next_with}
use Rattle.node_rules.proofs.mentioned_ballots.MentionedBallotsCandidates.next.Goals as goal

pub returns-in-Some : goal.returns-in-Some
returns-in-Some g c =
    let rows = (g.S.Sight.seen c.args.self.now.sight.now).rows Kind.Ballot in
    let by = mentioned_by c.args.mention in
    c.better_mentioned.ensures
    ∙ ap (λ (o : Option Ballot). better_under o c.args.bound.now (by c.in-Some.own)) c.next_mentioned-best.ensures
    ∙ next_with by c.args.bound.now rows c.in-Some.own
    ∙ ap (λ (o : Option Statement). next_under c.args.bound.now (mentioned_in c.args.mention (rows ++ option_to_list o))) (sym c.in-Some.is)
