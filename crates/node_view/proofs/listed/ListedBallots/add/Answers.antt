use Rattle.std.proofs.Common.{◌++◌, ◌∷◌, [], List, Some, subst, sym}
use Rattle.std.specs.List.{Contains, insert}
use Rattle.scp_types.specs.declared.ballot.Ballot.{Ballot}
use Rattle.node_view.specs.Listing.{AreListed, IsDescending, IsPlaceUnder}
use Rattle.node_view.proofs.ListedLaws.{counted_listed, has_listed, insert_descends, insert_listed, has_positive_counter-from}
use Rattle.node_view.proofs.listed.ListedBallots.add.Goals as goal

pub returns-in-Ok : goal.returns-in-Ok
returns-in-Ok c =
    let ts = c.args.self.now in
    let t = c.args.ballot.now in
    counted_listed ts ts t (has_positive_counter-from c.counter.result t c.counter.ensures c.if-counter-eq0.false) (has_listed ts t c.in-Ok.ensures.1)

pub invariant_of-self-in-Err : goal.invariant_of-self-in-Err
invariant_of-self-in-Err c =
    let ts = c.self.inside.ballots.items in
    let t = c.args.ballot.now in
    let p = c.in-Err.place in
    let place = subst (λ (us : List Ballot). IsPlaceUnder (Some t) us p) (sym c.self.view_is) c.in-Err.ensures.0 in
    let missing = λ (has : Contains ts t). c.in-Err.ensures.1 (subst (λ (us : List Ballot). Contains us t) c.self.view_is has) in
    let of_copy = subst (λ (u : Ballot). IsDescending (insert ts p u)) (sym c.in_ok-copy-in-Err.ensures) (insert_descends ts t p place c.self.invariant missing) in
    subst IsDescending (sym c.in_ok-insert-in-Err.ensures.items) of_copy

pub returns-in_ok-insert-in-Err : goal.returns-in_ok-insert-in-Err
returns-in_ok-insert-in-Err c =
    let t = c.args.ballot.now in
    let p = c.in-Err.place in
    let of_copy = subst (λ (u : Ballot). AreListed (insert c.self.inside.ballots.items p u) (c.self.inside.ballots.items ++ t ∷ [])) (sym c.in_ok-copy-in-Err.ensures) (insert_listed c.self.inside.ballots.items p t) in
    let listed = subst (λ (us : List Ballot). AreListed us (c.self.inside.ballots.items ++ t ∷ [])) (sym c.in_ok-insert-in-Err.ensures.items) of_copy in
    counted_listed c.insert.new.self.items c.args.self.now t (has_positive_counter-from c.counter.result t c.counter.ensures c.if-counter-eq0.false)
    (subst (λ (us : List Ballot). AreListed c.insert.new.self.items (us ++ t ∷ [])) c.self.view_is listed)
