use Rattle.std.proofs.Common.{◌≡◌, ◌<◌, Err, Ok, List, length, ◌∙◌, ap, subst, arith}
use Rattle.scp_spec.specs.Hosts.{Config}
use Rattle.host_journal.specs.Logs.{Log}
use Rattle.host_world.specs.Worlds.{IsPlaceOf}
use Rattle.host_world.proofs.ByNumber.{missing, there}
use Rattle.host_world.proofs.world.World.join.Goals as goal

pub returns-in-Ok-clause-err : goal.returns-in-Ok-clause-err
returns-in-Ok-clause-err g c =
    let number : c.number.result ≡ c.args.journal.config.number = c.number.ensures ∙ ap (λ (k : Config). k.number) c.config.ensures in
    let place = subst (λ n. IsPlaceOf c.args.self.now n (Ok c.in-Ok.field-0)) number (subst (λ r. IsPlaceOf c.args.self.now c.number.result r) c.in-Ok.is c.place.ensures) in
    there c.args.self.now c.args.journal.config.number c.in-Ok.field-0 place.0 place.1

pub returns-then-len-ge-MAX_NETWORKS-clause-err : goal.returns-then-len-ge-MAX_NETWORKS-clause-err
returns-then-len-ge-MAX_NETWORKS-clause-err g c =
    let number : c.number.result ≡ c.args.journal.config.number = c.number.ensures ∙ ap (λ (k : Config). k.number) c.config.ensures in
    let place = subst (λ n. IsPlaceOf c.args.self.now n (Err c.in-Err.at)) number (subst (λ r. IsPlaceOf c.args.self.now c.number.result r) c.in-Err.is c.place.ensures) in
    (missing c.args.self.now c.args.journal.config.number place.0, subst (λ (xs : List Log). length xs ≡ 4096) c.self.view_is (let m = c.self.invariant.1.1 in omega (arith, m, c.if-len-ge-MAX_NETWORKS.true, c.len.ensures, c.self.inside.journals.ok)))

pub put_at-requires-clause-at : goal.put_at-requires-clause-at
put_at-requires-clause-at g c =
    let number : c.number.result ≡ c.args.journal.config.number = c.number.ensures ∙ ap (λ (k : Config). k.number) c.config.ensures in
    subst (λ n. IsPlaceOf c.args.self.now n (Err c.in-Err.at)) number (subst (λ r. IsPlaceOf c.args.self.now c.number.result r) c.in-Err.is c.place.ensures)

pub returns-in-Ok-put_at-clause-fresh : goal.returns-in-Ok-put_at-clause-fresh
returns-in-Ok-put_at-clause-fresh g c =
    let number : c.number.result ≡ c.args.journal.config.number = c.number.ensures ∙ ap (λ (k : Config). k.number) c.config.ensures in
    let place = subst (λ n. IsPlaceOf c.args.self.now n (Err c.in-Err.at)) number (subst (λ r. IsPlaceOf c.args.self.now c.number.result r) c.in-Err.is c.place.ensures) in
    missing c.args.self.now c.args.journal.config.number place.0

pub returns-in-Err-put_at-clause-err : goal.returns-in-Err-put_at-clause-err
returns-in-Err-put_at-clause-err g c =
    let number : c.number.result ≡ c.args.journal.config.number = c.number.ensures ∙ ap (λ (k : Config). k.number) c.config.ensures in
    let place = subst (λ n. IsPlaceOf c.args.self.now n (Err c.in-Err.at)) number (subst (λ r. IsPlaceOf c.args.self.now c.number.result r) c.in-Err.is c.place.ensures) in
    (missing c.args.self.now c.args.journal.config.number place.0, subst (λ (xs : List Log). length xs < 4096) c.self.view_is (let m = c.self.invariant.1.1 in omega (arith, m, c.if-len-ge-MAX_NETWORKS.false, c.len.ensures, c.self.inside.journals.ok)))
