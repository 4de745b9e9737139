use Rattle.std.proofs.Common.{◌<◌, ◌≤◌, length, ap, refl, ◌∙◌, arith}
use Rattle.scp_spec.specs.Hosts.{Config}
use Rattle.pool_workers.specs.Nets.{nets_with}
use Rattle.pool_workers.proofs.Numbers.{found_place, found_there}
use Rattle.pool_workers.proofs.Nets.{joins, joins_fresh, joins_full, joins_twice, place_fits}
use Rattle.pool_workers.proofs.host.Host.add.Goals as goal

pub put_at-requires-clause-place : goal.put_at-requires-clause-place
put_at-requires-clause-place g c =
    let f = c.turn_to.new.self in
    place_fits f c.reserve.new.self c.number-number.result c.in-Err.place c.turn_to.ensures.kept c.reserve.ensures.same
    (found_place f.shared.numbers.items c.deref.result.now _ c.number-number.result c.in-Err.place _ c.turn_to.ensures.kept.numbered.1 c.deref.ensures.value refl c.in-Err.is c.binary_search.ensures.position)

pub invariant_of-self-in-Err : goal.invariant_of-self-in-Err
invariant_of-self-in-Err g c =
    let f = c.turn_to.new.self in
    let number = c.number-number.ensures ∙ ap (λ (k : Config). k.number) c.config.ensures in
    let p = found_place f.shared.numbers.items c.deref.result.now c.args.cell.config.number c.number-number.result c.in-Err.place _ c.turn_to.ensures.kept.numbered.1 c.deref.ensures.value number c.in-Err.is c.binary_search.ensures.position in
    let few : length f.shared.numbers.items < 4096 = omega (arith, c.if-len-ge-MAX_NETWORKS.false, c.len.ensures, f.shared.numbers.ok) in
    (joins f c.reserve.new.self c.put_at.new.self c.in-Err.place c.args.cell c.args.seats.items c.turn_to.ensures.kept c.reserve.ensures.same p few c.requires c.put_at.ensures).0

pub returns-else-not-reserve-clause-ok : goal.returns-else-not-reserve-clause-ok
returns-else-not-reserve-clause-ok g c =
    let f = c.turn_to.new.self in
    let number = c.number-number.ensures ∙ ap (λ (k : Config). k.number) c.config.ensures in
    let p = found_place f.shared.numbers.items c.deref.result.now c.args.cell.config.number c.number-number.result c.in-Err.place _ c.turn_to.ensures.kept.numbered.1 c.deref.ensures.value number c.in-Err.is c.binary_search.ensures.position in
    let few : length f.shared.numbers.items < 4096 = omega (arith, c.if-len-ge-MAX_NETWORKS.false, c.len.ensures, f.shared.numbers.ok) in
    (joins f c.reserve.new.self c.put_at.new.self c.in-Err.place c.args.cell c.args.seats.items c.turn_to.ensures.kept c.reserve.ensures.same p few c.requires c.put_at.ensures).1
    ∙ ap (nets_with (record { cell = c.args.cell; seats = c.args.seats.items })) (c.turn_to.ensures.nets ∙ c.self.view_is)

pub returns-else-not-reserve-clause-fresh : goal.returns-else-not-reserve-clause-fresh
returns-else-not-reserve-clause-fresh g c =
    let f = c.turn_to.new.self in
    let number = c.number-number.ensures ∙ ap (λ (k : Config). k.number) c.config.ensures in
    let p = found_place f.shared.numbers.items c.deref.result.now c.args.cell.config.number c.number-number.result c.in-Err.place _ c.turn_to.ensures.kept.numbered.1 c.deref.ensures.value number c.in-Err.is c.binary_search.ensures.position in
    let few : length f.shared.numbers.items < 4096 = omega (arith, c.if-len-ge-MAX_NETWORKS.false, c.len.ensures, f.shared.numbers.ok) in
    joins_fresh f c.args.self.now c.args.cell.config.number c.in-Err.place (c.turn_to.ensures.nets ∙ c.self.view_is) c.turn_to.ensures.kept p few

pub returns-in-Ok-clause-why : goal.returns-in-Ok-clause-why
returns-in-Ok-clause-why g c =
    let f = c.turn_to.new.self in
    let number = c.number-number.ensures ∙ ap (λ (k : Config). k.number) c.config.ensures in
    joins_twice f c.args.self.now c.args.cell.config.number c.in-Ok.field-0 (c.turn_to.ensures.nets ∙ c.self.view_is) c.turn_to.ensures.kept
    (found_there f.shared.numbers.items c.deref.result.now f.shared.cells.items c.args.cell.config.number c.number-number.result c.in-Ok.field-0 _ c.turn_to.ensures.kept.numbered c.deref.ensures.value number c.in-Ok.is c.binary_search.ensures.position)

pub returns-then-len-ge-MAX_NETWORKS-clause-why : goal.returns-then-len-ge-MAX_NETWORKS-clause-why
returns-then-len-ge-MAX_NETWORKS-clause-why g c =
    let f = c.turn_to.new.self in
    let number = c.number-number.ensures ∙ ap (λ (k : Config). k.number) c.config.ensures in
    let p = found_place f.shared.numbers.items c.deref.result.now c.args.cell.config.number c.number-number.result c.in-Err.place _ c.turn_to.ensures.kept.numbered.1 c.deref.ensures.value number c.in-Err.is c.binary_search.ensures.position in
    let many : 4096 ≤ length f.shared.numbers.items = omega (arith, c.if-len-ge-MAX_NETWORKS.true, c.len.ensures, f.shared.numbers.ok) in
    joins_full f c.args.self.now c.args.cell.config.number c.in-Err.place (c.turn_to.ensures.nets ∙ c.self.view_is) c.turn_to.ensures.kept p many

pub returns-then-not-reserve-clause-why : goal.returns-then-not-reserve-clause-why
returns-then-not-reserve-clause-why g c =
    let f = c.turn_to.new.self in
    let number = c.number-number.ensures ∙ ap (λ (k : Config). k.number) c.config.ensures in
    let p = found_place f.shared.numbers.items c.deref.result.now c.args.cell.config.number c.number-number.result c.in-Err.place _ c.turn_to.ensures.kept.numbered.1 c.deref.ensures.value number c.in-Err.is c.binary_search.ensures.position in
    let few : length f.shared.numbers.items < 4096 = omega (arith, c.if-len-ge-MAX_NETWORKS.false, c.len.ensures, f.shared.numbers.ok) in
    joins_fresh f c.args.self.now c.args.cell.config.number c.in-Err.place (c.turn_to.ensures.nets ∙ c.self.view_is) c.turn_to.ensures.kept p few
