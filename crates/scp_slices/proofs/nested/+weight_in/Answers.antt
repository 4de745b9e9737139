use Rattle.std.proofs.Common.{◌≡◌, ◌≤◌, ◌^◌, Option, Some, IfSome, length, ap, sym, ◌∙◌, subst, arith}
use Rattle.scp_types.specs.Trees.{weight_of, depth_of, member_count, HaveThresholds}
use Rattle.scp_types.specs.declared.nested.Member.{Member}
use Rattle.scp_spec.specs.Weights.{Fraction}
use Rattle.scp_slices.specs.Weighing.{part_of, share_of}
use Rattle.scp_slices.proofs.WeighingLaws.{share_of_member, share_at, part_is, share_of_within}
use Rattle.scp_types.proofs.Weights.{inner_weighs_less}
use Rattle.scp_slices.proofs.MemberLaws.{member_count_is, inner_keeps_rules}
use Rattle.scp_slices.proofs.nested.+weight_in.Goals as goal
use Rattle.scp_slices.proofs.nested.+weight_in.Goals.{in-Node, in-Set}

pub weight_in-found-requires : goal.weight_in-found-requires
weight_in-found-requires t c =
    let members = c.members-members.result.now in
    let w = inner_weighs_less members c.loop-member.member-index c.member-item.result c.in-Set.inner c.loop-member-test.true c.member-item.is c.in-Set.is in
    let e = ap weight_of c.members-members.ensures in
    let r = inner_keeps_rules members c.loop-member.member-index c.member-item.result c.in-Set.inner c.loop-member-test.true c.member-item.is c.in-Set.is
    (subst HaveThresholds (sym c.members-members.ensures) c.requires.inner_sets) in
    let d = ap depth_of c.members-members.ensures in
    (omega (arith, w, e, c.decreases), (r.0, (r.1, omega (arith, r.2, d, c.requires.levels))))

pub overflow_cast-members : goal.overflow_cast-members
overflow_cast-members t c = omega (arith, member_count_is c.members-members.result.now, ap member_count c.members-members.ensures, c.requires.threshold)

pub returns-in-Some-clause-value : goal.returns-in-Some-clause-value
returns-in-Some-clause-value t c =
    let members = c.members-members.result.now in
    let set = c.args.set.now in
    let u = c.args.node.now in
    let f = c.in-Some.share in
    let gives : share_of_member c.member-item.result u ≡ Some f = elim c.match-member.branch [
      | in-Node w ↦ ap (λ (m : Member). share_of_member m u) w.in-Node.is ∙ (sym w.own_weight-found.ensures.value ∙ (sym w.found-is ∙ c.in-Some.is))
      | in-Set w ↦ ap (λ (m : Member). share_of_member m u) w.in-Set.is ∙ (sym w.weight_in-found.ensures.value ∙ (sym w.found-is ∙ c.in-Some.is))
    ] in
    let found = sym c.loop-member.invariant.so_far ∙ share_at members c.loop-member.member-index c.member-item.result u f c.loop-member-test.true c.member-item.is gives in
    let counted : length members ≡ member_count set.members = sym (member_count_is members) ∙ ap member_count c.members-members.ensures in
    let part : share_of set u ≡ Some (part_of set.threshold (length members) f) = part_is set u (length members) f counted found in
    cc

pub returns-in-Some-clause-fits : goal.returns-in-Some-clause-fits
returns-in-Some-clause-fits t c =
    let value : ◌≡◌ {A = Option Fraction} (Some c.part.result) (share_of c.args.set.now c.args.node.now) = returns-in-Some-clause-value t c in
    subst (λ (o : Option Fraction). IfSome o (λ w. (w.numerator ≤ 64 ^ 9) × (w.denominator ≤ 64 ^ 9))) (sym value)
    (share_of_within c.args.set.now c.args.node.now c.requires.threshold c.requires.inner_sets c.requires.levels)
