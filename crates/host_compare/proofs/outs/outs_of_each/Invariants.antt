use Rattle.std.proofs.Common.{◌≡◌, take}
use Rattle.host_compare.specs.OutLists.{outs_of_each}
use Rattle.host_compare.proofs.outs.outs_of_each.Given as goal

abbrev pub invariant-loop-number : goal.invariant-loop-number
invariant-loop-number g l = l.list.items ≡ outs_of_each l.slot (take l.number l.journal.entries) l.names
