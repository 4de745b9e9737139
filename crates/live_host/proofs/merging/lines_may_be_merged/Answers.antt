use Rattle.live_host.proofs.MergedLines as lines
use Rattle.live_host.proofs.merging.lines_may_be_merged.Goals as goal

pub returns : goal.returns
returns c = lines.lines_may_be_merged
