use Rattle.std.proofs.Common.{◌<◌, length, sym, ◌∙◌, arith}
use Rattle.pool_workers.proofs.Nets.{leaves, turned_long}
use Rattle.pool_workers.proofs.host.Host.close_next.Goals as goal

pub remove_last-cell-requires : goal.remove_last-cell-requires
remove_last-cell-requires g c =
    let f = c.turn_to.new.self in
    let long = turned_long f c.turn_to.ensures.kept in
    let n = long.0 in
    let h = long.1 in
    let ok = f.shared.cells.ok.0 in
    let some : 0 < length f.shared.cells.items = grind (arith, c.is_empty.ensures, c.if-is_empty.false, ok) in
    (omega arith, some, omega arith)

pub close-requires : goal.close-requires
close-requires g c = (leaves c.turn_to.new.self c.remove_last-cell.new.self c.remove_last-cell.result.0 c.remove_last-cell.result.1.items c.turn_to.ensures.kept c.remove_last-cell.ensures).1.own

pub unreachable-requires : goal.unreachable-requires
unreachable-requires g c =
    let none = c.in-Err.ensures.missing in
    none.2 ((leaves c.turn_to.new.self c.remove_last-cell.new.self c.remove_last-cell.result.0 c.remove_last-cell.result.1.items c.turn_to.ensures.kept c.remove_last-cell.ensures).1.all none.0 none.1)

pub invariant_of-self-2 : goal.invariant_of-self-2
invariant_of-self-2 g c = (leaves c.turn_to.new.self c.remove_last-cell.new.self c.remove_last-cell.result.0 c.remove_last-cell.result.1.items c.turn_to.ensures.kept c.remove_last-cell.ensures).0

pub returns-clause-closed : goal.returns-clause-closed
returns-clause-closed g c =
    let gone = leaves c.turn_to.new.self c.remove_last-cell.new.self c.remove_last-cell.result.0 c.remove_last-cell.result.1.items c.turn_to.ensures.kept c.remove_last-cell.ensures in
    (record { cell = c.remove_last-cell.result.0; seats = c.remove_last-cell.result.1.items }, sym (c.turn_to.ensures.nets ∙ c.self.view_is) ∙ gone.3, gone.2, record { config = c.in-Ok.ensures.config; seats = c.in-Ok.ensures.ended; history = c.in-Ok.ensures.history })
