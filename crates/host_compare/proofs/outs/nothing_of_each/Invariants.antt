use Rattle.std.proofs.Common.{◌≡◌, take, map, []}
use Rattle.host_compare.proofs.outs.nothing_of_each.Given as goal

abbrev pub invariant-loop-name : goal.invariant-loop-name
invariant-loop-name l = l.list.items ≡ map (λ u. (u, [])) (take l.name-index l.names)
