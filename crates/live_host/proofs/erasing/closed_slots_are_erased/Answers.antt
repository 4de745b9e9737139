use Rattle.live_host.proofs.ErasedInTurn.{all_closed_slots_are_erased}
use Rattle.live_host.proofs.ErasedRuns as runs
use Rattle.live_host.proofs.erasing.closed_slots_are_erased.Goals as goal

pub returns : goal.returns
returns c = record {
  erased = runs.closed_slots_are_erased;
  all_erased = all_closed_slots_are_erased;
  others = runs.others_draw_as_much;
}
