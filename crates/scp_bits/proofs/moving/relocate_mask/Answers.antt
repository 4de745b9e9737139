use Rattle.std.proofs.Common.{◌≡◌, ◌%◌, ◌<◌, Vec, ap, ◌∙◌, rules, arith}
use Rattle.std.specs.Global.{Global}
use Rattle.scp_bits.specs.declared.mask.Mask.{Mask}
use Rattle.scp_bits.specs.Places.{count_in, places_in}
use Rattle.scp_bits.proofs.Moves.{set_bit, clear_bit}
use Rattle.scp_bits.proofs.Tallies.{word_from, bit_within, half_below, is_odd, is_even}
use Rattle.scp_bits.proofs.Words.{none_common, ones_first}
use Rattle.scp_bits.proofs.moving.relocate_mask.Goals as goal
use Rattle.scp_bits.proofs.moving.relocate_mask.Goals.{then-rest-eq1+in_ok-relocate_place, else-rest-eq1}

pub loop-rest-preserved : goal.loop-rest-preserved
loop-rest-preserved c =
    let m = c.args.mask.now in
    let rest = c.loop-rest.rest in
    let bit = c.loop-rest.bit in
    let first = c.in-Some.first in
    let kept = c.loop-rest.invariant in
    let within : bit < 64 = bit_within rest bit kept.low c.loop-rest-test.true in
    let ones = ones_first rest in
    record {
      first = kept.first;
      low = half_below rest bit within kept.low;
      so_far = λ ws vs is. elim c.if-rest-eq1.branch [
        | then-rest-eq1+in_ok-relocate_place w ↦
            let odd : rest % 2 ≡ 1 = is_odd rest w.if-rest-eq1.true in
            let added = ap (λ (v : Vec Mask Global). places_in v.items vs) w.moved-is ∙ w.in_ok-relocate_place.ensures.places ws vs is in
            omega (arith, kept.so_far ws vs is, added, set_bit ws m.index bit rest first kept.first within odd)
        | else-rest-eq1 w ↦
            let even : rest % 2 ≡ 0 = is_even rest w.if-rest-eq1.false in
            let same = ap (λ (v : Vec Mask Global). places_in v.items vs) w.moved-is in
            omega (arith, kept.so_far ws vs is, same, clear_bit ws m.index bit rest even)
      ];
      count = elim c.if-rest-eq1.branch [
        | then-rest-eq1+in_ok-relocate_place w ↦
            let odd : rest % 2 ≡ 1 = is_odd rest w.if-rest-eq1.true in
            let added = ap (λ (v : Vec Mask Global). count_in v.items) w.moved-is in
            omega (arith, kept.count, added, w.in_ok-relocate_place.ensures.count, ones, odd)
        | else-rest-eq1 w ↦
            let even : rest % 2 ≡ 0 = is_even rest w.if-rest-eq1.false in
            let same = ap (λ (v : Vec Mask Global). count_in v.items) w.moved-is in
            omega (arith, kept.count, same, ones, even)
      ];
    }

pub returns-clause-places : goal.returns-clause-places
returns-clause-places c = λ ws vs is.
    let none : c.loop-rest.rest ≡ 0 = search rules in
    omega (arith, c.loop-rest.invariant.so_far ws vs is, none_common c.loop-rest.rest (word_from ws c.args.mask.now.index c.loop-rest.bit) none)
