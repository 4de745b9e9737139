use Rattle.live_host.proofs.LoweringConfigs as configs
use Rattle.live_host.proofs.LoweringHosts.{less_begins}
use Rattle.live_host.proofs.lowering.less_is_configured.Goals as goal

pub returns : goal.returns
returns c = record {
  configured = configs.less_is_configured;
  moved_back = configs.less_is_moved_back;
  begun = configs.begun_with_less;
  begins = less_begins;
}
