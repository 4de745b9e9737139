use Rattle.live_host.proofs.ApartRuns as runs
use Rattle.live_host.proofs.apart.networks_follow_their_own_lines.Goals as goal

pub returns : goal.returns
returns c = record {
  begun = runs.networks_follow_their_own_lines;
  further = runs.networks_go_on_by_their_own_lines;
}
