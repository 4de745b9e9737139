use Rattle.std.proofs.Common.{Option, Some, sym, subst}
use Rattle.host_journal.specs.Logs.{Log}
use Rattle.host_world.specs.Worlds.{log_at}
use Rattle.host_compare.specs.Meanings.{IsVerdictOn}
use Rattle.host_compare.proofs.HistoryVerdicts.{verdict_without_network, verdict_of_histories}
use Rattle.host_compare.proofs.comparing.compare.Goals as goal

pub returns-in_default-clause-histories : goal.returns-in_default-clause-histories
returns-in_default-clause-histories g c = λ h k one other. verdict_without_network h k c.args.one.now c.args.other.now c.args.subject.now.net c.args.subject.now.slot c.args.subject.now.node one other (sym c.in_default.ensures)

pub returns-clause-histories : goal.returns-clause-histories
returns-clause-histories g c = λ h k one other.
    verdict_of_histories h k c.args.one.now c.args.other.now c.args.subject.now.net c.args.subject.now.slot c.args.subject.now.node c.in_ok-verdict.verdict one other
    (subst (λ (o : Option Log). IsVerdictOn o (log_at c.args.other.now c.args.subject.now.net) c.args.subject.now.slot c.args.subject.now.node c.in_ok-verdict.verdict) c.in-Some.ensures
    (subst (λ (o : Option Log). IsVerdictOn (Some c.in-Some.journal.now) o c.args.subject.now.slot c.args.subject.now.node c.in_ok-verdict.verdict) c.journal-counterpart.ensures c.in_ok-verdict.ensures.verdict))
