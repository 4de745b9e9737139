use Rattle.std.proofs.Common.{List, ap, arith}
use Rattle.std.proofs.lemmas.List.{drop_all}
use Rattle.scp_bits.specs.declared.mask.Mask.{Mask}
use Rattle.scp_bits.specs.Places.{places_in}
use Rattle.scp_bits.proofs.Tallies.{count_at, places_at}
use Rattle.scp_bits.proofs.moving.relocate_masks.Goals as goal

pub loop-mask-preserved : goal.loop-mask-preserved
loop-mask-preserved c =
    let ms = c.args.masks.now in
    let i = c.loop-mask.mask-index in
    let kept = c.loop-mask.invariant in
    record {
      so_far = λ ws vs is. omega (arith, kept.so_far ws vs is, c.in_ok-relocate_mask.ensures.places ws vs is, places_at ms i (record { index = 0; bits = 0 }) ws c.loop-mask-test.true);
      count = omega (arith, kept.count, c.in_ok-relocate_mask.ensures.count, count_at ms i (record { index = 0; bits = 0 }) c.loop-mask-test.true);
    }

pub returns-clause-places : goal.returns-clause-places
returns-clause-places c = λ ws vs is.
    let ms = c.args.masks.now in
    let none = ap (λ (rest : List Mask). places_in rest ws) (drop_all c.loop-mask.mask-index ms (omega (arith, c.loop-mask-test.false))) in
    omega (arith, c.loop-mask.invariant.so_far ws vs is, none)
