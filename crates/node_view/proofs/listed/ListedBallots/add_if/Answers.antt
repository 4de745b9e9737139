use Rattle.std.proofs.Common.{◌++◌, OnOk, Option, filter, option_to_list, subst, sym}
use Rattle.scp_types.specs.declared.ballot.Ballot.{Ballot}
use Rattle.scp_spec.specs.Candidates.{has_positive_counter}
use Rattle.node_view.specs.Listing.{AreListed}
use Rattle.node_view.proofs.listed.ListedBallots.add_if.Goals as goal

pub returns-in-Some : goal.returns-in-Some
returns-in-Some c =
    let old = c.args.self.now in
    let now = c.add.new.self in
    subst
    (λ (o : Option Ballot). OnOk c.add.result (AreListed now (old ++ filter has_positive_counter (option_to_list o))))
    (sym c.in-Some.is) c.add.ensures
