use Rattle.std.proofs.Common.{◌≡◌, ◌<◌, ◌∙◌, List, Some, length, get_or, sym, ap, subst}
use Rattle.std.specs.List.{remove}
use Rattle.host_config.specs.Configs.{index_in}
use Rattle.scp_spec.specs.Sets.{IsAscending}
use Rattle.host_journal.specs.Logs.{Log}
use Rattle.host_world.specs.Worlds.{numbers_of}
use Rattle.host_world.proofs.ByNumber.{stands}
use Rattle.host_world.proofs.Leaving.{left-by-number, removed-is}
use Rattle.host_world.proofs.world.World.take_at.Goals as goal

pub invariant_of-self : goal.invariant_of-self
invariant_of-self g c =
    let ls = c.self.inside.journals.items in
    let at : (index_in (numbers_of ls) c.args.number ≡ Some c.args.at) × (c.args.at < length ls) = subst (λ (xs : List Log). (index_in (numbers_of xs) c.args.number ≡ Some c.args.at) × (c.args.at < length xs)) (sym c.self.view_is) c.requires in
    rw (c.remove-number.ensures.items, c.remove.ensures.items) (left-by-number c.self.inside.numbers.items ls c.args.at c.self.invariant at.1)

pub returns-clause-which : goal.returns-clause-which
returns-clause-which g c =
    sym (stands c.args.self.now c.args.number c.args.at c.remove.result c.requires.0 c.requires.1 (subst (λ (ls : List Log). c.remove.result ≡ get_or ls c.args.at c.remove.result) c.self.view_is c.remove.ensures.value))

pub returns-clause-rest : goal.returns-clause-rest
returns-clause-rest g c =
    c.remove.ensures.items ∙ ap (λ (ls : List Log). remove ls c.args.at) c.self.view_is
    ∙ removed-is c.args.self.now c.args.number c.args.at (subst (λ (ls : List Log). IsAscending (numbers_of ls)) c.self.view_is c.self.invariant.1.0) c.requires.0
