use Rattle.live_host.proofs.ErasedMachines as machines
use Rattle.live_host.proofs.erasing.erased_machines_serve_all_alike.Goals as goal

pub returns : goal.returns
returns c = record {
  elsewhere = machines.erased_machines_serve_all_alike;
  there = machines.all_machine_events_there_are_erased;
}
