use Rattle.std.proofs.Common.{◌∙◌, Option, option_to_list, subst, sym}
use Rattle.scp_types.specs.declared.ballot.Ballot.{Ballot}
use Rattle.scp_voting.specs.Mentions.{mentioned_in}
use Rattle.node_view.specs.Listing.{AreLeft}
use Rattle.node_view.specs.Watching.{rows_of_others}
use Rattle.node_view.proofs.Leaving.{gone_left, still_left}
use Rattle.node_view.proofs.reached_ballots.unless_mentioned.Goals as goal

pub returns-then-is_mentioned : goal.returns-then-is_mentioned
returns-then-is_mentioned g c =
    let rows = c.args.rows.now in
    let staying = mentioned_in c.args.mention (rows_of_others c.args.own.now rows.kind rows.table rows.nodes) in
    let listed = c.args.listed.now in
    subst (λ (o : Option Ballot). AreLeft staying (option_to_list o) listed listed) (sym c.in-Some.is)
    (still_left staying listed c.in-Some.ballot (sym c.is_mentioned.ensures ∙ c.if-is_mentioned.true))

pub returns : goal.returns
returns g c =
    let rows = c.args.rows.now in
    let staying = mentioned_in c.args.mention (rows_of_others c.args.own.now rows.kind rows.table rows.nodes) in
    let listed = c.args.listed.now in
    subst (λ (o : Option Ballot). AreLeft staying (option_to_list o) listed c.remove.new.self) (sym c.in-Some.is)
    (gone_left staying listed c.remove.new.self c.in-Some.ballot
    (sym c.is_mentioned.ensures ∙ c.if-is_mentioned.false) c.remove.ensures)
