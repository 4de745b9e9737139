use Rattle.std.proofs.Common.{◌≡◌, ◌∙◌, ◌<◌, ◌≤◌, List, Some, ap, get_or, length, subst, sym}
use Rattle.std.proofs.lemmas.Bool.{ltb-false, ltb-true}
use Rattle.scp_types.specs.declared.ballot.Ballot.{Ballot}
use Rattle.node_view.specs.Listing.{IsDescending}
use Rattle.node_view.proofs.ListedLaws.{next_nowhere, next_there}
use Rattle.node_view.proofs.listed.ListedBallots.next.Goals as goal

pub returns-in-None : goal.returns-in-None
returns-in-None c =
    let ts = c.args.self.now in
    let p = c.place_under.result in
    let size = ap (λ (us : List Ballot). length us) (c.deref.ensures.value ∙ c.self.view_is) in
    next_nowhere c.args.bound.now ts p (subst IsDescending c.self.view_is c.self.invariant) c.place_under.ensures (subst (λ n. n ≤ p) size (ltb-false p _ (sym c.in-None.ensures.lookup.0)))

pub returns-in-Some : goal.returns-in-Some
returns-in-Some c =
    let ts = c.args.self.now in
    let p = c.place_under.result in
    let t = c.in-Some.ballot.now in
    let all = c.deref.ensures.value ∙ c.self.view_is in
    let within = subst (λ (us : List Ballot). p < length us) all (ltb-true p _ (sym c.in-Some.ensures.lookup.0)) in
    let is = subst (λ (us : List Ballot). t ≡ get_or us p t) all c.in-Some.ensures.lookup.1 in
    ap Some c.of.ensures ∙ next_there c.args.bound.now ts p (subst IsDescending c.self.view_is c.self.invariant) c.place_under.ensures t within is
