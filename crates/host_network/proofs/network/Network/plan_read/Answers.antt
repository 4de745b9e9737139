use Rattle.std.proofs.Common.{rules, ◌≡◌, Err, sym, subst}
use Rattle.scp_types.specs.declared.event.Refusal.TheVariants.{BadEnvelope, NoSuchNode}
use Rattle.scp_spec.specs.Networks.Step.{Delivers}
use Rattle.host_network.specs.Decoding.{said_by}
use Rattle.host_network.specs.Deeds.{IsPlannedSurely}
use Rattle.host_network.specs.Standing.{IsFirstRefusal, machine_of}
use Rattle.host_network.specs.declared.reading.Reading.{Reading}
use Rattle.host_network.proofs.Handings.{bytes-bad, bytes-nowhere}
use Rattle.host_network.proofs.network.Network.plan_read.Goals as goal

pub returns-in_err-node_place-in-Faulty : goal.returns-in_err-node_place-in-Faulty
returns-in_err-node_place-in-Faulty g c =
    let a = c.args in
    let e : c.from_residual.result ≡ Err NoSuchNode = search rules in
    subst (IsPlannedSurely a.self.now (Delivers a.node.now a.size (said_by a.said))) (sym e) (bytes-nowhere a.self.now a.node.now a.size (said_by a.said) c.in_err-node_place-in-Faulty.ensures.1)

pub returns-in_ok-node_place-in-Faulty : goal.returns-in_ok-node_place-in-Faulty
returns-in_ok-node_place-in-Faulty g c =
    let a = c.args in
    subst (λ (x : Reading). IsFirstRefusal (machine_of a.self.now) (Delivers a.node.now a.size (said_by x)) (BadEnvelope c.in-Faulty.number)) (sym c.in-Faulty.is)
    (bytes-bad a.self.now a.node.now _ a.size c.in-Faulty.number c.in_ok-node_place-in-Faulty.ensures)
