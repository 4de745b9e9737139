use Rattle.std.proofs.Common.{◌≡◌, ap, sym, subst, ◌∙◌, length, arith}
use Rattle.scp_types.specs.Trees.{weight_of, member_count, HaveThresholds}
use Rattle.scp_types.specs.Shape.{members_of}
use Rattle.scp_types.proofs.Weights.{inner_weighs_less}
use Rattle.scp_types.proofs.NestedRules.{member_count-members_of}
use Rattle.scp_codec.proofs.MemberLoop.{inner_keeps_rules, set_begun}
use Rattle.scp_codec.proofs.encoder.+put_set.Goals as goal

pub overflow_cast-members : goal.overflow_cast-members
overflow_cast-members t c =
    omega (arith, c.requires.outer.1, c.requires.outer.2, member_count-members_of c.members-members.result.now, ap member_count c.members-members.ensures)

pub loop-member-init : goal.loop-member-init
loop-member-init t c =
    let shape = c.members-members.ensures in
    let ms = members_of c.members-members.result.now in
    let count : length c.members-members.result.now ≡ member_count c.args.set.now.members = sym (member_count-members_of c.members-members.result.now) ∙ ap member_count shape in
    record {
      shape = shape;
      rules = subst HaveThresholds (sym shape) c.requires.inner;
      written = set_begun c.args.out.now.items c.push.new.self.items c.push-2.new.self.items c.threshold.result (length c.members-members.result.now) c.args.set.now ms c.in_ok-push.ensures.items c.in_ok-push-2.ensures.items c.threshold.ensures count shape;
    }

pub put_set-requires : goal.put_set-requires
put_set-requires t c =
    let w = inner_weighs_less c.members-members.result.now c.loop-member.member-index c.member-item.result c.in-Set.inner c.loop-member-test.true c.member-item.is c.in-Set.is in
    let k = inner_keeps_rules c.members-members.result.now c.loop-member.member-index c.member-item.result c.in-Set.inner c.loop-member-test.true c.member-item.is c.in-Set.is c.loop-member.invariant.rules in
    let e = ap weight_of c.members-members.ensures in
    (omega (arith, w, e, c.decreases), k)
