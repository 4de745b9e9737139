use Rattle.std.proofs.Common.{◌≡◌, take}
use Rattle.pool_script.specs.Decisions.{standing_in}
use Rattle.pool_script.proofs.decided.decided_in_order.Given as goal

abbrev pub invariant-loop-number : goal.invariant-loop-number
invariant-loop-number g l = l.found.items ≡ standing_in (take l.number l.journal.entries)
