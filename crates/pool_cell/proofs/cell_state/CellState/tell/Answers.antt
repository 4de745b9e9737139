use Rattle.std.proofs.Common.{ℕ, ◌+◌, length, subst, ap, ◌∙◌, arith}
use Rattle.host_journal.specs.Deciding.{decisions_from}
use Rattle.pool_cell.specs.Publishing.{IsToldBut}
use Rattle.pool_cell.specs.Views.{CellStateSight}
use Rattle.pool_cell.proofs.Published.{few_wait, there, told_but}
use Rattle.pool_cell.proofs.cell_state.CellState.tell.Goals as goal

pub count_decisions-requires-clause-few : goal.count_decisions-requires-clause-few
count_decisions-requires-clause-few g c =
    let d = c.self.inside in
    let few = few_wait d.journal.config d.journal.entries d.appended _ c.replays.ensures (there _ _ _ _ c.in-Some.is c.self.invariant) in
    let mine = c.pending_count-waiting.ensures in
    omega arith

pub returns-else-not-tell-clause-told : goal.returns-else-not-tell-clause-told
returns-else-not-tell-clause-told g c =
    let d = c.self.inside in
    subst (λ (x : CellStateSight). IsToldBut x.log.entries c.count_decisions.result c.tell.new.watch) c.self.view_is
    (told_but d.journal.entries d.appended _ c.tell.new.watch c.count_decisions.result (there _ _ _ _ c.in-Some.is c.self.invariant) (c.tell.ensures.told c.if-not-tell.false)
    (c.count_decisions.ensures ∙ ap (λ (k : ℕ). k + length (decisions_from d.journal.entries d.appended)) c.pending_count-waiting.ensures))
