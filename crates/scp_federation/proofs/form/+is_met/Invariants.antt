use Rattle.std.proofs.Common.{◌≡◌, ◌+◌, ◌-◌, ◌≤◌, length, drop, map}
use Rattle.scp_types.specs.Shape.{members_of}
use Rattle.scp_spec.specs.Sets.{among}
use Rattle.scp_federation.specs.Numbers.{member_by, set_at}
use Rattle.scp_federation.proofs.MeetingLaws.{met_count}
use Rattle.scp_federation.proofs.form.+is_met.Given as goal

abbrev pub decreases-is_met : goal.decreases-is_met
decreases-is_met l = length l.sets.now - l.number

abbrev pub invariant-loop-member : goal.invariant-loop-member
invariant-loop-member l =
    record {
      so_far : l.count + met_count l.blocking (members_of (map (member_by l.names (set_at l.names l.sets)) (drop l.member-index l.members))) (among l.nodes)
          ≡ met_count l.blocking (members_of (map (member_by l.names (set_at l.names l.sets)) l.members)) (among l.nodes);
      few : (l.member-index ≤ length l.members) × (l.count ≤ l.member-index);
    }
