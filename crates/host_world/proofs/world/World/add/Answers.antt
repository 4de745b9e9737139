use Rattle.std.proofs.Common.{◌≡◌, ap, sym, subst, ◌∙◌, List, None}
use Rattle.host_journal.specs.Logs.{Log}
use Rattle.host_world.specs.Worlds.{AreJournalsOf, IsNotAdded, with_new_network, log_at, logs_with}
use Rattle.host_world.proofs.Histories.{history-joined}
use Rattle.host_world.proofs.world.World.add.Goals as goal

pub returns-in-Ok-clause-history : goal.returns-in-Ok-clause-history
returns-in-Ok-clause-history g c = λ h own_is.
    let none : log_at c.args.self.now c.args.config.number ≡ None = subst (λ (l : Log). log_at c.args.self.now l.config.number ≡ None) c.new.ensures c.in-Ok.ensures.fresh in
    subst (λ (ls : List Log). AreJournalsOf (with_new_network c.args.config h) ls) (sym (c.in-Ok.ensures.ok ∙ ap (λ (l : Log). logs_with l c.args.self.now) c.new.ensures)) (history-joined h c.args.self.now c.args.config own_is none)

pub returns-in-Err-clause-err : goal.returns-in-Err-clause-err
returns-in-Err-clause-err g c = subst (λ (l : Log). IsNotAdded c.args.self.now l.config.number c.in-Err.error) c.new.ensures c.in-Err.ensures.err
