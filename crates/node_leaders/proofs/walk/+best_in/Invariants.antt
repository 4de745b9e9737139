use Rattle.std.proofs.Common.{◌≡◌, drop}
use Rattle.scp_types.specs.Trees.{member_count}
use Rattle.scp_types.specs.Shape.{members_of}
use Rattle.scp_slices.specs.Weighing.{part_of}
use Rattle.scp_spec.specs.Leaders.{hash, beats}
use Rattle.node_leaders.specs.Walk.{best_among, is_drawn}
use Rattle.node_leaders.proofs.walk.+best_in.Given as goal

abbrev pub decreases-best_in : goal.decreases-best_in
decreases-best_in l = goal.size-best_in l

abbrev pub invariant-loop-member : goal.invariant-loop-member
invariant-loop-member l = record {
  shape : members_of l.members ≡ l.set.members;
  weighs : l.weight ≡ part_of l.set.threshold (member_count l.set.members) l.fn.outer;
  so_far :
      best_among (is_drawn l.fn.draws.slot l.fn.draws.round) (beats l.fn.draws.slot l.fn.draws.round) l.weight (members_of (drop l.member-index l.members)) l.best.node
      ≡ best_among (is_drawn l.fn.draws.slot l.fn.draws.round) (beats l.fn.draws.slot l.fn.draws.round) l.weight l.set.members l.fn.own.node;
  same : l.draws ≡ l.fn.draws;
  priority : l.best.priority ≡ hash l.fn.draws.slot 2 l.fn.draws.round l.best.node;
}
