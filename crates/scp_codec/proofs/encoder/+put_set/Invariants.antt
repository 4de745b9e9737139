use Rattle.std.proofs.Common.{◌≡◌, ◌++◌, drop}
use Rattle.scp_types.specs.Trees.{HaveThresholds}
use Rattle.scp_types.specs.Shape.{members_of}
use Rattle.scp_codec.specs.Spelling.{members, slices}
use Rattle.scp_codec.proofs.encoder.+put_set.Given as goal

abbrev pub decreases-put_set : goal.decreases-put_set
decreases-put_set l = goal.size-put_set l

abbrev pub invariant-loop-member : goal.invariant-loop-member
invariant-loop-member l = record {
  shape : members_of l.members ≡ l.set.members;
  rules : HaveThresholds (members_of (drop l.member-index l.members));
  written : l.out.items ++ members (members_of (drop l.member-index l.members)) ≡ l.fn.out.items ++ slices l.set;
}
