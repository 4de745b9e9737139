use Rattle.std.proofs.Common.{◌+◌, ◌∷◌, [], length, subst}
use Rattle.scp_spec.specs.Networks.{emissions}
use Rattle.node_core.specs.Filings.{whole_outs}
use Rattle.node_core.specs.declared.filed.FiledOut.{FiledOut}
use Rattle.host_network.specs.FiledSlots.{HaveRoom}
use Rattle.host_network.proofs.emission_log.log_out.Goals as goal

pub returns-in-Emit-clause-room : goal.returns-in-Emit-clause-room
returns-in-Emit-clause-room g c =
    λ count h. c.log_emission.ensures.room count (subst (λ (o : FiledOut). HaveRoom (length (emissions (whole_outs (o ∷ []))) + count) c.args.emitted.now c.args.places.now c.args.marks.now) c.in-Emit.is h)
