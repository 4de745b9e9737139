use Rattle.std.proofs.Common.{◌≡◌, ◌+◌, ◌-◌, ◌*◌, length}
use Rattle.line_script.specs.Fronts.{inner_front, members_front, members_in}
use Rattle.line_script.proofs.FrontLaws.{behind_members}
use Rattle.line_script.proofs.slices.+reading.Given as goal

abbrev pub decreases-inner_at : goal.decreases-inner_at
decreases-inner_at l = 4 * l.levels

abbrev pub decreases-member_at : goal.decreases-member_at
decreases-member_at l = 4 * l.levels + 1

abbrev pub decreases-members_at : goal.decreases-members_at
decreases-members_at l = 4 * l.levels + 2

abbrev pub decreases-set_at : goal.decreases-set_at
decreases-set_at l = 4 * l.levels + 3

abbrev pub invariant-members_at-loop-rest : goal.invariant-members_at-loop-rest
invariant-members_at-loop-rest l = behind_members l.members.items (members_front (inner_front l.levels) (64 - length l.members.items) l.rest) ≡ members_in (inner_front l.levels) l.text

abbrev pub decreases-members_at-loop-rest : goal.decreases-members_at-loop-rest
decreases-members_at-loop-rest l = 64 - length l.members.items
