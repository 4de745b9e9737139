use Rattle.live_host.proofs.ApartLines.{hosts_stay_ordered}
use Rattle.live_host.proofs.ApartRuns.{reached_hosts_are_ordered}
use Rattle.live_host.proofs.apart.hosts_are_ordered.Goals as goal

pub returns : goal.returns
returns c = record { line = hosts_stay_ordered; lines = reached_hosts_are_ordered }
