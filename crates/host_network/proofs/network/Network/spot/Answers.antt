use Rattle.std.proofs.Common.{rules, ◌≡◌, ◌∙◌, ◌∷◌, Result, Err, sym, subst}
use Rattle.std.specs.Prelude.{MatchResult}
use Rattle.scp_types.specs.declared.event.Refusal.{Refusal}
use Rattle.scp_types.specs.declared.event.Refusal.TheVariants.{NoSuchNode, SlotNotOpen}
use Rattle.scp_spec.specs.Networks.{open_test}
use Rattle.host_network.specs.Deeds.{IsSpot, IsSpotRefused}
use Rattle.host_network.specs.declared.plan.Spot.{Spot}
use Rattle.host_network.proofs.Allowed.{no_node, node_then, not_open}
use Rattle.host_network.proofs.network.Network.spot.Goals as goal

pub returns-in_err-node_at : goal.returns-in_err-node_at
returns-in_err-node_at g c =
    let m = c.args.self.now in
    let e : c.from_residual.result ≡ Err NoSuchNode = search rules in
    subst (λ (x : Result Spot Refusal). MatchResult x (IsSpot m c.args.slot c.args.node.now) (IsSpotRefused m c.args.slot c.args.node.now)) (sym e)
    (λ net s ts. no_node m net c.args.node.now (open_test net c.args.slot ∷ ts) s c.in_err-node_at.ensures.1)

pub returns-in_err-slot_at : goal.returns-in_err-slot_at
returns-in_err-slot_at g c =
    let m = c.args.self.now in
    let e : c.from_residual-in_err-slot_at.result ≡ Err SlotNotOpen = search rules in
    subst (λ (x : Result Spot Refusal). MatchResult x (IsSpot m c.args.slot c.args.node.now) (IsSpotRefused m c.args.slot c.args.node.now)) (sym e)
    (λ net s ts. node_then m net c.args.node.now c.in_ok-node_at.node_at (open_test net c.args.slot ∷ ts) s c.in_ok-node_at.ensures ∙ not_open m net c.args.slot ts s c.in_err-slot_at.ensures.1)
