use Rattle.live_host.proofs.LoweringLengths.{lowered_lines_are_no_longer}
use Rattle.live_host.proofs.LoweringRosters as rosters
use Rattle.live_host.proofs.lowering.lowered_lines_declare_less.Goals as goal

pub returns : goal.returns
returns c = record {
  less = rosters.lowered_lines_declare_less;
  nodes = rosters.node_lines_stay;
  no_longer = lowered_lines_are_no_longer;
}
