use Rattle.live_host.proofs.LoweringHosts.{declarations_leave_one}
use Rattle.live_host.proofs.LoweringRuns as runs
use Rattle.live_host.proofs.lowering.lowered_declarations_declare_less.Goals as goal

pub returns : goal.returns
returns c = record {
  runs = runs.runs_declare;
  served = runs.declarations_are_served;
  less = runs.lowered_declarations_declare_less;
  one = declarations_leave_one;
}
