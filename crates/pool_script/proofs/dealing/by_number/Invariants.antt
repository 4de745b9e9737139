use Rattle.std.proofs.Common.{length}
use Rattle.pool_script.proofs.DealingLaws.{AreTaken}
use Rattle.pool_script.proofs.dealing.by_number.Given as goal

abbrev pub invariant-loop-config : goal.invariant-loop-config
invariant-loop-config l = AreTaken l.fn.configs.items l.configs.items l.shares

abbrev pub decreases-loop-config : goal.decreases-loop-config
decreases-loop-config l = length l.configs.items
