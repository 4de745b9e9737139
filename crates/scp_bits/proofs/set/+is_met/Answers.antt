use Rattle.std.proofs.Common.{ap, arith}
use Rattle.scp_bits.specs.Places.{Compiled, weight_of_sets}
use Rattle.scp_bits.proofs.Weights.{inner_weighs_less}
use Rattle.scp_bits.proofs.set.+is_met.Goals as goal

pub is_met-requires : goal.is_met-requires
is_met-requires t c =
    let w = inner_weighs_less c.inner-sets.result.now c.loop-inner.inner-index c.inner-item.result c.loop-inner-test.true in
    let f = ap (λ (s : Compiled). weight_of_sets s.inner) c.inner-item.is in
    let e = ap weight_of_sets c.inner-sets.ensures in
    (omega (arith, w, e, f, c.decreases), tt)
