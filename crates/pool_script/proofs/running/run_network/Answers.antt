use Rattle.std.proofs.Common.{rules, ◌∙◌, sym, subst}
use Rattle.std.specs.List.{All}
use Rattle.pool_cell.specs.Cells.{IsSeatOf}
use Rattle.pool_cell.specs.Sights.{CellSight}
use Rattle.pool_workers.specs.Spares.{HasAllSeats}
use Rattle.pool_workers.proofs.Worked.{seats_grown}
use Rattle.pool_script.proofs.RunningLaws.{one_seat, told_lines, worked_off}
use Rattle.pool_script.proofs.running.run_network.Goals as goal

pub run_alone-requires : goal.run_alone-requires
run_alone-requires g c = one_seat c.args.share.config c.deref.result.now c.in_ok-cell.cell c.in_ok-cell.seats.items c.in_ok-cell.ensures.ready c.in_ok-cell.ensures.seats

pub close-requires : goal.close-requires
close-requires g c =
    subst (λ (k : CellSight). All (IsSeatOf k) c.in_ok-cell-2.seats.items) (sym c.in_ok-cell-2.ensures.cell)
    (seats_grown c.in_ok-cell.cell c.in_ok-cell.seats.items c.in_ok-cell-2.seats.items c.in_ok-cell.ensures.seats c.in_ok-cell-2.ensures.run.grown).own

pub unreachable-requires : goal.unreachable-requires
unreachable-requires g c =
    let all = subst (λ (k : CellSight). HasAllSeats k c.in_ok-cell-2.seats.items) (sym c.in_ok-cell-2.ensures.cell)
    (seats_grown c.in_ok-cell.cell c.in_ok-cell.seats.items c.in_ok-cell-2.seats.items c.in_ok-cell.ensures.seats c.in_ok-cell-2.ensures.run.grown) in
    let missing = c.in_default.ensures.missing in
    missing.2 (all.all missing.0 missing.1)

pub returns : goal.returns
returns g c =
    let lines = c.in_ok-push_decided.ensures in
    record {
      log = c.in-Ok.journal;
      worked =
          worked_off c.args.share.config c.args.share.calls.items c.deref.result.now c.in_ok-slots.jobs.items c.reverse.new.self.items c.in_ok-cell.cell c.in_ok-cell-2.cell c.in_ok-cell.seats.items c.in_ok-cell-2.seats.items
          c.in-Ok._seats.items c.in_ok-cell-2.report c.in-Ok.journal (c.deref.ensures.value ∙ c.in_ok-slots.ensures.0) c.in_ok-slots.ensures.1 c.reverse.ensures.items c.in_ok-cell.ensures.ready c.in_ok-cell-2.ensures.cell
          c.in_ok-cell-2.ensures.run (record { config = c.in-Ok.ensures.config; seats = c.in-Ok.ensures.ended; history = c.in-Ok.ensures.history }) c.replays.ensures;
      decided = told_lines c.in-Ok.journal _ _ lines.0 lines.1 lines.2 (search rules);
      long = search rules;
    }
