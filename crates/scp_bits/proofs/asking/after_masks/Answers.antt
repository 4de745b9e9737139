use Rattle.std.proofs.Common.{arith}
use Rattle.scp_bits.specs.declared.mask.Mask.{Mask}
use Rattle.scp_bits.proofs.Tallies.{one_mask, no_mask}
use Rattle.scp_bits.proofs.asking.after_masks.Goals as goal

pub loop-mask-preserved : goal.loop-mask-preserved
loop-mask-preserved g c = λ ws are t later.
    let ms = c.args.masks.now in
    let i = c.loop-mask.mask-index in
    let d : Mask = record { index = 0; bits = 0 } in
    c.loop-mask.invariant ws are t (one_mask ms i d ws c.loop-mask.tally c.after_mask-tally.result t c.loop-mask-test.true (c.after_mask-tally.ensures ws are) later)

pub returns : goal.returns
returns g c = λ ws are. c.loop-mask.invariant ws are c.loop-mask.tally (no_mask c.args.masks.now c.loop-mask.mask-index ws c.loop-mask.tally (omega (arith, c.loop-mask-test.false)))
