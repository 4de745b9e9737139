-- A network that was opened, run and closed.
use Rattle.std.proofs.Common.{◌≡◌, ◌∙◌, ◌++◌, ℕ, List, [], reverse, sym, ap, subst, arith}
use Rattle.std.specs.List.{All}
use Rattle.std.proofs.lemmas.List.Elements.{All-head}
use Rattle.scp_types.specs.declared.event.Event.{Event}
use Rattle.scp_spec.specs.Hosts.{Config}
use Rattle.scp_spec.specs.Runs.{IsRun as Replays}
use Rattle.host_journal.specs.Logs.{Log}
use Rattle.line_script.specs.Script.{Bytes}
use Rattle.pool_queue.specs.declared.rule.Job.{Job}
use Rattle.pool_cell.specs.Cells.{IsSeatOf}
use Rattle.pool_cell.specs.Sights.{CellSight, SeatSight}
use Rattle.pool_workers.specs.Alone.{HasOneSeat, IsRunAlone}
use Rattle.pool_workers.specs.Nets.{IsClosedNet}
use Rattle.pool_workers.specs.Spares.{HasAllSeats}
use Rattle.pool_workers.specs.declared.running.Report.{Report}
use Rattle.pool_workers.proofs.Sums.{weigh-turned}
use Rattle.pool_script.specs.Opening.{IsReadyNetwork}
use Rattle.pool_script.specs.PoolLines.{AreDecidedLines}
use Rattle.pool_script.specs.Pooling.{IsWorkedOff, jobs_of, slots_opened}

-- lines that were added to none
pub told_lines : (l : Log) (old new lines : Bytes) → AreDecidedLines l lines → new ≡ old ++ lines → old ≡ [] → AreDecidedLines l new
told_lines l old new lines said is empty = subst (AreDecidedLines l) (sym (is ∙ ap (λ bs. bs ++ lines) empty)) said

pub one_seat : (config : Config) (slots : List ℕ) (c : CellSight) (seats : List SeatSight) → IsReadyNetwork config slots (record { cell = c; seats = seats }) → HasAllSeats c seats → HasOneSeat c seats
one_seat config slots c seats ready all = (ready.seat, ready.seats, All-head (IsSeatOf c) ready.seat [] (subst (All (IsSeatOf c)) ready.seats all.own))

turned : (c : CellSight) (old new : List SeatSight) (xs ys : List Job) (r : Report) → ys ≡ reverse xs → IsRunAlone c old new ys r → IsRunAlone c old new xs r
turned c old new xs ys r is run = record {
  grown = run.grown;
  done = record {
    lacking = run.done.lacking;
    elsewhere = run.done.elsewhere;
    sum = λ h. let s = run.done.sum h in let w = weigh-turned h xs ys is in omega arith;
    applied = run.done.applied;
    refused = run.done.refused;
    unrun = run.done.unrun;
  };
}

pub worked_off : (config : Config) (calls : List (ℕ × Event)) (slots : List ℕ) (jobs last_first : List Job) (c d : CellSight) (old new ended : List SeatSight) (report : Report) (log : Log) → slots ≡ slots_opened calls → jobs ≡ jobs_of calls
    → last_first ≡ reverse jobs → IsReadyNetwork config slots (record { cell = c; seats = old }) → d ≡ c → IsRunAlone c old new last_first report → IsClosedNet (record { cell = d; seats = new }) log ended
    → Replays log.config log.entries → IsWorkedOff config calls log report
worked_off config calls slots jobs last_first c d old new ended report log slots_are jobs_are turn opened same run closed replays = record {
  net = record { cell = c; seats = old };
  opened = subst (λ ss. IsReadyNetwork config ss (record { cell = c; seats = old })) slots_are opened;
  seats = new;
  run = subst (λ js. IsRunAlone c old new js report) jobs_are (turned c old new jobs last_first report turn run);
  ended = ended;
  closed = subst (λ (k : CellSight). IsClosedNet (record { cell = k; seats = new }) log ended) same closed;
  replays = replays;
}
