use Rattle.std.proofs.Common.{◌≡◌, ℕ, Option, false, sym, ap, ◌∙◌, arith, is_some}
use Rattle.scp_spec.specs.Sets.{among}
use Rattle.scp_bits.proofs.Picking.{none_is, bit_is}
use Rattle.scp_bits.proofs.compiling.add_node.Goals as goal

pub returns-in-None-clause-places : goal.returns-in-None-clause-places
returns-in-None-clause-places c = λ ws.
    let absent : among c.args.nodes.now c.args.node.now ≡ false = sym c.place_near.ensures.exactly ∙ ap (λ (o : Option ℕ). is_some o) c.in-None.is in
    omega (arith, none_is c.args.nodes.now c.args.node.now ws absent)

pub returns-in_ok-add_place-in-Some-clause-places : goal.returns-in_ok-add_place-in-Some-clause-places
returns-in_ok-add_place-in-Some-clause-places c = λ ws.
    omega (arith, c.in_ok-add_place-in-Some.ensures.places ws, bit_is c.args.nodes.now c.in-Some.place c.args.node.now ws c.requires c.in-Some.ensures.place.0 c.in-Some.ensures.place.1)
