use Rattle.std.proofs.Common.{◌≡◌, ◌<◌, Err, List, length, refl, sym, ◌∙◌, ap, subst}
use Rattle.std.specs.List.{insert}
use Rattle.scp_spec.specs.Hosts.{Config}
use Rattle.host_journal.specs.Logs.{Log}
use Rattle.host_world.specs.Worlds.{IsPlaceOf}
use Rattle.host_world.proofs.ByNumber.{joins}
use Rattle.host_world.proofs.world.World.put_at.Goals as goal

pub invariant_of-self-in-Err : goal.invariant_of-self-in-Err
invariant_of-self-in-Err g c = rw (c.reserve.ensures.items, c.in-Err.ensures.items) c.self.invariant

pub invariant_of-self-in-Ok : goal.invariant_of-self-in-Ok
invariant_of-self-in-Ok g c =
    let ls = c.self.inside.journals.items in
    let place = subst (λ (xs : List Log). IsPlaceOf xs c.args.journal.config.number (Err c.args.at)) (sym c.self.view_is) c.requires.at in
    let number : c.number-number.result ≡ c.args.journal.config.number = c.number-number.ensures ∙ ap (λ (k : Config). k.number) c.config.ensures in
    let few : length ls < 4096 = subst (λ (xs : List Log). length xs < 4096) (sym c.self.view_is) c.requires.few in
    rw (c.in-Ok.ensures.items)
    (joins c.self.inside.numbers.items c.insert-in-Ok.new.self.items ls c.args.at c.args.journal c.self.invariant.0
    (c.in-Ok-insert.ensures.items ∙ ap (λ ns. insert ns c.args.at c.number-number.result) c.reserve.ensures.items ∙ ap (λ n. insert c.self.inside.numbers.items c.args.at n) number)
    place.2 few place.1)

pub returns-in-Ok-insert-clause-ok : goal.returns-in-Ok-insert-clause-ok
returns-in-Ok-insert-clause-ok g c =
    c.in-Ok.ensures.items ∙ ap (λ (xs : List Log). insert xs c.args.at c.args.journal) c.self.view_is ∙ sym (c.requires.at.3 c.args.journal refl)
