use Rattle.std.proofs.Common.{◌≡◌, ◌||◌, drop}
use Rattle.scp_spec.specs.Sets.{also, among, within}
use Rattle.node_reach.proofs.keeping.are_in_either.Given as goal

abbrev pub invariant-loop-name : goal.invariant-loop-name
invariant-loop-name l = within (drop l.name-index l.names) (λ u. among l.new u || also l.node (among l.own) u) ≡ within l.names (λ u. among l.new u || also l.node (among l.own) u)
