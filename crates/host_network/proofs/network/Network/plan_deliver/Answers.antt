use Rattle.std.proofs.Common.{rules, ◌≡◌, Err, refl, sym, subst, inl, inr, length}
use Rattle.scp_types.specs.declared.event.Refusal.TheVariants.{NoSuchNode}
use Rattle.scp_spec.specs.Networks.{Reading}
use Rattle.scp_spec.specs.Networks.Step.{Delivers}
use Rattle.host_network.specs.Decoding.{reading}
use Rattle.host_network.specs.Deeds.{IsPlanned, IsPlannedSurely}
use Rattle.host_network.proofs.Handings.{bytes-nowhere}
use Rattle.host_network.proofs.Planned.{planned}
use Rattle.host_network.proofs.network.Network.plan_deliver.Goals as goal

pub returns-in_err-node_place : goal.returns-in_err-node_place
returns-in_err-node_place g c =
    let m = c.args.self.now in
    let e : c.from_residual.result ≡ Err NoSuchNode = search rules in
    subst (IsPlanned m (Delivers c.args.node.now (length c.args.bytes.now) (reading c.args.bytes.now))) (sym e)
    (inr (bytes-nowhere m c.args.node.now (length c.args.bytes.now) (reading c.args.bytes.now) c.in_err-node_place.ensures.1))

pub returns-in-Err : goal.returns-in-Err
returns-in-Err g c = inl (refl, inr ((_, c.in_ok-node_place.ensures), c.in-Err.ensures.memory))

pub returns-in-Ok : goal.returns-in-Ok
returns-in-Ok g c =
    let m = c.args.self.now in
    let u = c.args.node.now in
    let n = length c.args.bytes.now in
    planned m (Delivers u n (reading c.args.bytes.now)) c.plan_read.result (subst (λ (x : Reading). IsPlannedSurely m (Delivers u n x) c.plan_read.result) c.in-Ok.ensures.said c.plan_read.ensures)
