use Rattle.live_host.proofs.ErasedThere as there
use Rattle.live_host.proofs.erasing.steps_there_are_erased.Goals as goal

pub returns : goal.returns
returns c = there.steps_there_are_erased
