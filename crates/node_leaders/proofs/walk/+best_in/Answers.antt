use Rattle.std.proofs.Common.{◌≡◌, refl, sym, subst, ap, ◌∙◌, length, arith}
use Rattle.scp_types.specs.Trees.{weight_of, depth_of, member_count, HaveThresholds}
use Rattle.scp_types.proofs.Weights.{inner_weighs_less}
use Rattle.scp_slices.proofs.MemberLaws.{member_count_is, inner_keeps_rules}
use Rattle.scp_spec.specs.Leaders.{hash}
use Rattle.scp_spec.specs.Weights.{Fraction}
use Rattle.node_leaders.specs.declared.draw.Draw.{Draw}
use Rattle.node_leaders.specs.Walk.{HasRoomForLevels}
use Rattle.node_leaders.proofs.Room.{has_room, is_small}
use Rattle.node_leaders.proofs.walk.+best_in.Goals as goal

pub overflow_cast-members : goal.overflow_cast-members
overflow_cast-members t c = omega (arith, member_count_is c.members-members.result.now, ap member_count c.members-members.ensures, c.requires.threshold)

pub part-weight-requires-clause-numerator : goal.part-weight-requires-clause-numerator
part-weight-requires-clause-numerator t c = (is_small c.args.outer (depth_of c.args.set.now.members) c.requires.room).0

pub part-weight-requires-clause-denominator : goal.part-weight-requires-clause-denominator
part-weight-requires-clause-denominator t c = (is_small c.args.outer (depth_of c.args.set.now.members) c.requires.room).1

pub loop-member-init : goal.loop-member-init
loop-member-init t c = record {
  shape = c.members-members.ensures;
  weighs =
      let counted : length c.members-members.result.now ≡ member_count c.args.set.now.members = sym (member_count_is c.members-members.result.now) ∙ ap member_count c.members-members.ensures in
      c.part-weight.ensures ∙ rw (c.threshold.ensures, counted) refl;
  so_far = rw c.members-members.ensures refl;
  same = refl;
  priority = c.requires.priority;
}

pub best_in-best-requires : goal.best_in-best-requires
best_in-best-requires t c =
    let members = c.members-members.result.now in
    let set = c.args.set.now in
    let w = inner_weighs_less members c.loop-member.member-index c.member-item.result c.in-Set.inner c.loop-member-test.true c.member-item.is c.in-Set.is in
    let e = ap weight_of c.members-members.ensures in
    let r = inner_keeps_rules members c.loop-member.member-index c.member-item.result c.in-Set.inner c.loop-member-test.true c.member-item.is c.in-Set.is
    (subst HaveThresholds (sym c.members-members.ensures) c.requires.inner_sets) in
    let d = ap depth_of c.members-members.ensures in
    let drawn = subst (λ (d : Draw). c.loop-member.best.priority ≡ hash d.slot 2 d.round c.loop-member.best.node) (sym c.loop-member.invariant.same) c.loop-member.invariant.priority in
    let room = has_room set.threshold (member_count set.members) (depth_of set.members) (depth_of c.in-Set.inner.members) c.args.outer (omega arith) (omega arith) (omega (arith, r.2, d)) c.requires.room in
    (omega (arith, w, e, c.decreases), (r.0, (r.1, (subst (λ (f : Fraction). HasRoomForLevels f (depth_of c.in-Set.inner.members)) (sym c.loop-member.invariant.weighs) room, drawn))))
