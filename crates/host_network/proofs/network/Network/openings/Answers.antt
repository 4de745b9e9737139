use Rattle.std.proofs.Common.{◌∙◌, Option, option_map, sym, ap}
use Rattle.scp_spec.specs.Networks.{source}
use Rattle.scp_spec.specs.Networks.Step.{Opens, Closes}
use Rattle.scp_spec.specs.Rosters.{Roster}
use Rattle.host_network.specs.Standing.{FiledMachine}
use Rattle.host_network.proofs.network.Network.openings.Goals as goal

pub returns-in-Some-clause-opens : goal.returns-in-Some-clause-opens
returns-in-Some-clause-opens g c =
    let q = ap (λ (m : FiledMachine). m.config.roster) (sym c.self.view_is) ∙ (sym c.roster.ensures ∙ ap (option_map (λ r. r.now)) c.in-Some.is) in
    λ i. (c.in-Some.field-0.now, q, ap (λ (o : Option Roster). source o (Opens i)) q)

pub returns-in-Some-clause-closes : goal.returns-in-Some-clause-closes
returns-in-Some-clause-closes g c =
    let q = ap (λ (m : FiledMachine). m.config.roster) (sym c.self.view_is) ∙ (sym c.roster.ensures ∙ ap (option_map (λ r. r.now)) c.in-Some.is) in
    λ i. (c.in-Some.field-0.now, q, ap (λ (o : Option Roster). source o (Closes i)) q)
