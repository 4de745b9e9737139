use Rattle.std.proofs.Common.{rules, ◌≡◌, ◌∙◌, Ok, Err, subst, sym}
use Rattle.std.proofs.lemmas.Fn.{always_returns_same}
use Rattle.scp_types.specs.Orders.{ballot_cmp}
use Rattle.scp_types.specs.declared.ballot.Ballot.{Ballot}
use Rattle.node_view.specs.Listing.{IsDescending}
use Rattle.node_view.proofs.ListedLaws.{found}
use Rattle.node_view.proofs.listed.ListedBallots.find.Goals as goal

pub returns-in-Ok : goal.returns-in-Ok
returns-in-Ok c =
    let t = c.args.ballot.now in
    let found_by = c.binary_search_by.ensures in
    found c.deref.result.now t (subst IsDescending (sym c.deref.ensures.value) c.self.invariant) c.args.self.now c.binary_search_by.result (Ok c.in-Ok.place) (c.deref.ensures.value ∙ c.self.view_is) c.in-Ok.is found_by.bound
    (found_by.position (λ (u : Ballot). ballot_cmp t u) (always_returns_same _ (λ a r. r ≡ ballot_cmp t a.0.now) _ (λ a r q k. search rules)))

pub returns-in-Err : goal.returns-in-Err
returns-in-Err c =
    let t = c.args.ballot.now in
    let found_by = c.binary_search_by.ensures in
    found c.deref.result.now t (subst IsDescending (sym c.deref.ensures.value) c.self.invariant) c.args.self.now c.binary_search_by.result (Err c.in-Err.place) (c.deref.ensures.value ∙ c.self.view_is) c.in-Err.is found_by.bound
    (found_by.position (λ (u : Ballot). ballot_cmp t u) (always_returns_same _ (λ a r. r ≡ ballot_cmp t a.0.now) _ (λ a r q k. search rules)))
