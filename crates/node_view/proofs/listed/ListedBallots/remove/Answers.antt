use Rattle.std.proofs.Common.{◌∷◌, [], List, subst, sym}
use Rattle.scp_types.specs.declared.ballot.Ballot.{Ballot}
use Rattle.node_view.specs.Listing.{AreLeft}
use Rattle.node_view.proofs.Leaving.{missing_left, taken_out}
use Rattle.node_view.proofs.listed.ListedBallots.remove.Goals as goal

pub overflow_sub-place : goal.overflow_sub-place
overflow_sub-place c =
    (taken_out c.args.self.now c.args.ballot.now c.in-Ok.place c.are_descending.ensures c.in-Ok.ensures.0 c.in-Ok.ensures.1).0

pub remove_at-requires : goal.remove_at-requires
remove_at-requires c =
    (taken_out c.args.self.now c.args.ballot.now c.in-Ok.place c.are_descending.ensures c.in-Ok.ensures.0 c.in-Ok.ensures.1).1

pub returns-in-Ok : goal.returns-in-Ok
returns-in-Ok c =
    subst (λ (us : List Ballot). AreLeft [] (c.args.ballot.now ∷ []) c.args.self.now us) (sym c.remove_at.ensures)
    (taken_out c.args.self.now c.args.ballot.now c.in-Ok.place c.are_descending.ensures c.in-Ok.ensures.0 c.in-Ok.ensures.1).2

pub returns-in-Err : goal.returns-in-Err
returns-in-Err c = missing_left c.args.self.now c.args.ballot.now c.in-Err.ensures.1
