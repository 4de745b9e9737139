use Rattle.std.proofs.Common.{◌≤◌, ◌-◌, ◌∙◌, length, List, ap, sym, subst, arith}
use Rattle.scp_types.specs.declared.event.Out.{Out}
use Rattle.scp_spec.specs.Networks.{emissions}
use Rattle.node_core.specs.Filings.{event_of, whole_outs}
use Rattle.host_network.proofs.FewOuts.{few_emissions}
use Rattle.host_network.proofs.Numbering.{room-for}
use Rattle.host_network.proofs.emission_log.EmissionLog.advance.Goals as goal

pub log_outs-requires-clause-room : goal.log_outs-requires-clause-room
log_outs-requires-clause-room g c =
    let given = ap whole_outs c.deref.ensures.value ∙ c.in-Ok-advance.ensures.whole ∙ c.in-Ok-advance.ensures.outs in
    let n = length (emissions (whole_outs c.deref.result.now)) in
    let few : n ≤ 2 = subst (λ (os : List Out). length (emissions os) ≤ 2) (sym given) (few_emissions c.args.node.now.node (event_of c.args.event)) in
    room-for 2 n (2 - n) c.make_room.new.emitted c.make_room.new.places c.make_room.new.marks (omega (arith, few)) c.in-Ok.ensures.room
