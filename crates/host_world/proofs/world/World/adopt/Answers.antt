use Rattle.std.proofs.Common.{sym, subst, List}
use Rattle.host_journal.specs.Logs.{Log}
use Rattle.host_world.specs.Worlds.{AreJournalsOf, with_history_of}
use Rattle.host_world.proofs.Histories.{history-adopted}
use Rattle.host_world.proofs.world.World.adopt.Goals as goal

pub returns-in-Ok-clause-history : goal.returns-in-Ok-clause-history
returns-in-Ok-clause-history g c = λ h own own_is mine.
    subst (λ (ls : List Log). AreJournalsOf (with_history_of c.args.journal.config own h) ls) (sym c.in-Ok.ensures.ok) (history-adopted h own c.args.self.now c.args.journal own_is mine c.in-Ok.ensures.fresh)
