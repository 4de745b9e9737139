use Rattle.std.proofs.Common.{◌≡◌, ◌++◌}
use Rattle.std.specs.Map.{values_of}
use Rattle.pool_script.proofs.DealingLaws.{ArePartlyDealt}
use Rattle.pool_script.proofs.dealing.deal.Given as goal

abbrev pub invariant-loop-number : goal.invariant-loop-number
invariant-loop-number l = ArePartlyDealt l.fn.configs.items l.fn.calls.items l.number-iterator.rest.items l.elsewhere.items l.shares

abbrev pub invariant-loop-share : goal.invariant-loop-share
invariant-loop-share l = l.ascending.items ++ values_of l.share-iterator ≡ values_of l.initial.share-iterator
