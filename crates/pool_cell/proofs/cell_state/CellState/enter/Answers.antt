use Rattle.pool_cell.proofs.Published.{after_event_there}
use Rattle.pool_cell.proofs.cell_state.CellState.enter.Goals as goal

pub invariant_of-self : goal.invariant_of-self
invariant_of-self g c =
    let e = c.apply.ensures in
    after_event_there c.self.inside.journal c.apply.new.self _ c.self.inside.appended c.self.inside.publisher c.apply.result e.entered e.same c.self.invariant
