use Rattle.live_host.proofs.MergedRuns.{lines_alone_are_served, lines_alone_in_turn, own_lines_run_alone}
use Rattle.live_host.proofs.merging.lines_run_alone.Goals as goal

pub returns : goal.returns
returns c = record { served = lines_alone_are_served; in_turn = lines_alone_in_turn; own = own_lines_run_alone }
