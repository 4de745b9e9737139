use Rattle.std.proofs.Common.{◌≡◌, List, get_or, sym, subst}
use Rattle.host_journal.specs.Logs.{Log}
use Rattle.host_world.specs.Worlds.{IsPlaceOf}
use Rattle.host_world.proofs.ByNumber.{missing, stands}
use Rattle.host_world.proofs.world.World.journal.Goals as goal

pub returns-in-Ok : goal.returns-in-Ok
returns-in-Ok g c =
    let at = c.in-Ok.ensures in
    sym (stands c.args.self.now c.args.number c.in-Ok.at c.index.result.now at.0 at.1 (subst (λ (ls : List Log). c.index.result.now ≡ get_or ls c.in-Ok.at c.index.result.now) c.self.view_is c.index.ensures))

pub returns-in-Err : goal.returns-in-Err
returns-in-Err g c = sym (missing c.args.self.now c.args.number (subst (λ r. IsPlaceOf c.args.self.now c.args.number r) c.in-Err.is c.place.ensures).0)
