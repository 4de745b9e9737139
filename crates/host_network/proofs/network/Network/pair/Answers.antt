use Rattle.std.proofs.Common.{rules, ◌≡◌, ◌∙◌, ◌&&◌, true, option_map, sym, ap, subst}
use Rattle.scp_spec.specs.Sets.{among}
use Rattle.host_network.specs.Standing.{IsStanding, FiledMachine}
use Rattle.host_network.proofs.Drawing.{pair-on}
use Rattle.host_network.proofs.network.Network.pair.Goals as goal

pub returns-then-has-2-clause-drawn : goal.returns-then-has-2-clause-drawn
returns-then-has-2-clause-drawn g c =
    let st : IsStanding c.args.self.now = subst IsStanding c.self.view_is c.self.invariant in
    let q = ap (λ (m : FiledMachine). m.config.roster) (sym c.self.view_is) ∙ (sym c.roster.ensures ∙ ap (option_map (λ r. r.now)) c.in-Some.is) in
    let t : (among c.in-Some.roster.now.names c.args.node.now && among c.in-Some.roster.now.names c.args.from.now) ≡ true = search rules in
    λ i at. pair-on c.args.self.now i c.args.node.now c.args.from.now c.args.spot.now c.in-Some.roster.now st at c.requires.node q t
