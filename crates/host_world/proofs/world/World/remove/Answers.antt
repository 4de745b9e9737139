use Rattle.std.proofs.Common.{List, sym, subst}
use Rattle.host_journal.specs.Logs.{Log}
use Rattle.host_world.specs.Worlds.{AreJournalsOf, IsPlaceOf, history_without}
use Rattle.host_world.proofs.ByNumber.{missing}
use Rattle.host_world.proofs.Leaving.{history-left, none-left-out}
use Rattle.host_world.proofs.world.World.remove.Goals as goal

pub returns-in-Ok-clause-history : goal.returns-in-Ok-clause-history
returns-in-Ok-clause-history g c = λ h own_is.
    subst (λ (ls : List Log). AreJournalsOf (history_without c.args.number h) ls) (sym c.take_at.ensures.rest) (history-left h c.args.self.now c.args.number own_is)

pub returns-in-Err-clause-which : goal.returns-in-Err-clause-which
returns-in-Err-clause-which g c = sym (missing c.args.self.now c.args.number (subst (λ r. IsPlaceOf c.args.self.now c.args.number r) c.in-Err.is c.place.ensures).0)

pub returns-in-Err-clause-rest : goal.returns-in-Err-clause-rest
returns-in-Err-clause-rest g c =
    sym (none-left-out c.args.number c.args.self.now (missing c.args.self.now c.args.number (subst (λ r. IsPlaceOf c.args.self.now c.args.number r) c.in-Err.is c.place.ensures).0))

pub returns-in-Err-clause-history : goal.returns-in-Err-clause-history
returns-in-Err-clause-history g c = λ h own_is.
    subst (λ (ls : List Log). AreJournalsOf (history_without c.args.number h) ls)
    (none-left-out c.args.number c.args.self.now (missing c.args.self.now c.args.number (subst (λ r. IsPlaceOf c.args.self.now c.args.number r) c.in-Err.is c.place.ensures).0))
    (history-left h c.args.self.now c.args.number own_is)
