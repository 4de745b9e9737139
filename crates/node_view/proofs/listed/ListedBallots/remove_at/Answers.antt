use Rattle.std.proofs.Common.{List, ◌<◌, length, subst, sym}
use Rattle.scp_types.specs.declared.ballot.Ballot.{Ballot}
use Rattle.node_view.specs.Listing.{IsDescending}
use Rattle.node_view.proofs.Leaving.{remove_descends}
use Rattle.node_view.proofs.listed.ListedBallots.remove_at.Goals as goal

pub invariant_of-self : goal.invariant_of-self
invariant_of-self c =
    let ts = c.self.inside.ballots.items in
    let within = subst (λ (us : List Ballot). c.args.place < length us) (sym c.self.view_is) c.requires in
    subst IsDescending (sym c.remove-gone.ensures.items) (remove_descends ts c.args.place within c.self.invariant)
