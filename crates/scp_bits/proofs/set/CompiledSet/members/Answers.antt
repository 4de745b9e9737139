use Rattle.std.proofs.Common.{ap, arith}
use Rattle.scp_bits.specs.Places.{Compiled, count_in, count_sets}
use Rattle.scp_bits.proofs.Weights.{counted}
use Rattle.scp_bits.proofs.set.CompiledSet.members.Goals as goal

pub returns : goal.returns
returns c =
    let places = ap (λ (x : Compiled). count_in x.masks) c.self.view_is in
    let sets = ap (λ (x : Compiled). count_sets x.inner) c.self.view_is in
    omega (arith, c.self.invariant, places, sets, counted c.self.inside.inner.items)
