use Rattle.std.proofs.Common.{sym, ◌∙◌, ap, subst, arith}
use Rattle.scp_codec.specs.Answers.{Refuses}
use Rattle.scp_codec.specs.declared.error.Fault.TheVariants.{Version, Kind, Limit}
use Rattle.scp_spec.specs.Networks.Reading.{Fault}
use Rattle.host_network.proofs.Readings.{names-none, reads, reads-fault, takes-memory}
use Rattle.host_network.proofs.reading.read.Goals as goal

pub returns-in-Ok-clause-said : goal.returns-in-Ok-clause-said
returns-in-Ok-clause-said c = sym (reads c.args.bytes.now c.in-Ok.envelope c.in-Ok.ensures.found)

pub returns-in-Fault-clause-said : goal.returns-in-Fault-clause-said
returns-in-Fault-clause-said c =
    let f = subst (Refuses c.args.bytes.now) c.in-Fault.is c.in-Err.ensures.fault in
    ap Fault c.number.ensures ∙ sym (reads-fault c.args.bytes.now c.in-Fault.fault (λ i. omega (arith, c.type_inv.bytes i)) f)

pub returns-in-NoMemory-clause-memory : goal.returns-in-NoMemory-clause-memory
returns-in-NoMemory-clause-memory c =
    let e = c.in-Err.ensures in
    let x = c.in-Err.error in
    takes-memory c.args.bytes.now (λ l. names-none x Limit c.in-NoMemory.is (e.too_long l)) (λ s v. names-none x Version c.in-NoMemory.is (e.version s v)) (λ s k. names-none x Kind c.in-NoMemory.is (e.kind s k))
