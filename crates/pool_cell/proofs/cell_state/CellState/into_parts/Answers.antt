use Rattle.std.proofs.Common.{List, sym, subst}
use mathlib.Core.List.{IsPrefix}
use Rattle.pool_cell.specs.declared.decision.Decision.{Decision}
use Rattle.pool_cell.specs.Publishing.{decisions_known}
use Rattle.pool_cell.specs.Views.{CellStateSight}
use Rattle.pool_cell.proofs.Published.{published_begins, there}
use Rattle.pool_cell.proofs.cell_state.CellState.into_parts.Goals as goal

pub returns-in-Some-clause-published : goal.returns-in-Some-clause-published
returns-in-Some-clause-published g c =
    let d = c.self.inside in
    subst (λ (y : List Decision × CellStateSight). IsPrefix y.0 (decisions_known y.1.log.entries)) (λ i. (sym c.take.ensures i, c.self.view_is i))
    (published_begins d.journal.entries d.appended c.in-Some.publisher (there d.journal.entries d.appended d.publisher c.in-Some.publisher c.in-Some.is c.self.invariant))
