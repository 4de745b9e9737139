use Rattle.std.proofs.Common.{◌≡◌, ◌+◌, ◌-◌, ◌*◌, ◌++◌}
use Rattle.scp_types.specs.Shape.{members_of}
use Rattle.scp_types.specs.Trees.{names_in}
use Rattle.scp_codec.specs.Reading.{member_list_at, inner_at}
use Rattle.scp_codec.proofs.MemberLoop.{with_front}
use Rattle.scp_codec.proofs.trees.+tree.Given as goal

abbrev pub decreases-read_member : goal.decreases-read_member
decreases-read_member l = 3 * l.levels

abbrev pub decreases-read_members : goal.decreases-read_members
decreases-read_members l = 3 * l.levels + 1

abbrev pub decreases-read_set : goal.decreases-read_set
decreases-read_set l = 3 * l.levels + 2

abbrev pub invariant-read_members-loop : goal.invariant-read_members-loop
invariant-read_members-loop l = record {
  read : with_front (members_of l.members.items) (member_list_at (inner_at l.levels) (l.count - l.counter) l.seen l.reader) ≡ member_list_at (inner_at l.levels) l.count l.fn.seen l.fn.reader;
  names : l.seen ≡ l.fn.seen ++ names_in (members_of l.members.items);
}
