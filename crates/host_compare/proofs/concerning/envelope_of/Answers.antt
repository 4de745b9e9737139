use Rattle.std.proofs.Common.{Some, None, refl, sym, subst, arith}
use Rattle.scp_codec.specs.Answers.{Refuses}
use Rattle.scp_spec.specs.Networks.{Reading}
use Rattle.host_network.proofs.Readings.{reads, reads-fault}
use Rattle.host_compare.specs.Submitted.{IsReadAs}
use Rattle.host_compare.proofs.concerning.envelope_of.Goals as goal

pub returns-in-Ok : goal.returns-in-Ok
returns-in-Ok c = subst (λ (r : Reading). IsReadAs r (Some c.in-Ok.envelope)) (sym (reads c.args.bytes.now c.in-Ok.envelope c.in-Ok.ensures.found)) refl

pub returns-in-Err-Fault : goal.returns-in-Err-Fault
returns-in-Err-Fault c =
    subst (λ (r : Reading). IsReadAs r None) (sym (reads-fault c.args.bytes.now c.in-Err-Fault.field-0-0 (λ i. omega (arith, c.type_inv.bytes i)) (subst (Refuses c.args.bytes.now) c.in-Err-Fault.field-0-is c.in-Err-Fault.ensures.fault))) tt
