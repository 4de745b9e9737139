use Rattle.live_host.proofs.MovedBack.{moved_machines_serve_no_more}
use Rattle.live_host.proofs.MovedMachines as machines
use Rattle.live_host.proofs.alike.moved_machines_serve_alike.Goals as goal

pub returns : goal.returns
returns c = record { more = machines.moved_machines_serve_alike; no_more = moved_machines_serve_no_more }
