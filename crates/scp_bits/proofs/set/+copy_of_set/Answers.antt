use Rattle.std.proofs.Common.{List, length, ap, arith}
use Rattle.std.proofs.lemmas.List.{length-take-le}
use Rattle.scp_bits.specs.declared.mask.Mask.{Mask}
use Rattle.scp_bits.specs.Places.{Compiled, count_in, count_sets, weight_of_sets}
use Rattle.scp_bits.proofs.Weights.{counted, inner_weighs_less}
use Rattle.scp_bits.proofs.set.+copy_of_set.Goals as goal

pub copy_of_set-requires : goal.copy_of_set-requires
copy_of_set-requires t c =
    let w = inner_weighs_less c.inner-sets.result.now c.loop-each.each-index c.each-item.result c.loop-each-test.true in
    let f = ap (λ (s : Compiled). weight_of_sets s.inner) c.each-item.is in
    let e = ap weight_of_sets c.inner-sets.ensures in
    (omega (arith, w, e, f, c.decreases), tt)

pub new-requires : goal.new-requires
new-requires t c =
    let places = ap (λ (ms : List Mask). count_in ms) c.in_ok-masks.ensures.items in
    let same = ap (λ (ms : List Mask). count_in ms) c.masks.ensures in
    let sets = ap count_sets c.loop-each.invariant.shape in
    let copied = ap (λ (cs : List Compiled). length cs) c.loop-each.invariant.copied in
    let few = length-take-le c.loop-each.each-index c.inner-sets.result.now in
    omega (arith, c.members.ensures, places, same, sets, copied, few, counted c.inner-sets.result.now)
