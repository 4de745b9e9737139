use Rattle.std.proofs.Common.{Some, None, map, refl, sym, ap, ◌∙◌}
use Rattle.host_journal.specs.Deciding.{decisions_in_any}
use Rattle.host_journal.specs.Keeping.{entry_of, lent_entry}
use Rattle.host_journal.specs.Logs.{Log}
use Rattle.host_journal.proofs.DecidedOnce.{decided-once}
use Rattle.host_journal.proofs.OutsAt.{looked-up}
use Rattle.host_journal.proofs.journal.Journal+S.decision.Goals as goal

pub lent_decision-requires-clause-once : goal.lent_decision-requires-clause-once
lent_decision-requires-clause-once g c =
    let kept = c.self.inside.kept.entries.items in
    decided-once _ (map entry_of kept) c.args.number (lent_entry c.in-Some.kept) c.self.invariant.0.run (looked-up kept (map entry_of kept) c.args.number (Some c.in-Some.kept) refl c.in-Some.ensures.at)

pub returns-in-None : goal.returns-in-None
returns-in-None g c =
    ap decisions_in_any (sym (looked-up c.self.inside.kept.entries.items c.args.self.now.entries c.args.number None (ap (λ (l : Log). l.entries) c.self.view_is) c.in-None.ensures.at))

pub returns-in-Some : goal.returns-in-Some
returns-in-Some g c =
    c.lent_decision.ensures ∙ ap decisions_in_any (sym (looked-up c.self.inside.kept.entries.items c.args.self.now.entries c.args.number (Some c.in-Some.kept) (ap (λ (l : Log). l.entries) c.self.view_is) c.in-Some.ensures.at))
