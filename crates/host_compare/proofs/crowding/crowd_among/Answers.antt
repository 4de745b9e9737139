use Rattle.std.proofs.Common.{◌∙◌, Some, None, map, sym, ap}
use Rattle.std.proofs.Math.Path.{fun_ext}
use Rattle.scp_spec.specs.Sets.{Names}
use Rattle.scp_spec.specs.Submissions.{answers, replied_to, without_size}
use Rattle.host_closure.specs.Announcing.{member_names}
use Rattle.host_network.specs.Decoding.{reading}
use Rattle.host_closure.proofs.Parted.{judged_as}
use Rattle.host_compare.proofs.CrowdJudging.{are_reserved, inputs_are}
use Rattle.host_compare.proofs.crowding.crowd_among.Goals as goal

pub returns-in-Some-difference : goal.returns-in-Some-difference
returns-in-Some-difference c =
    let r = are_reserved c.args.one.now c.args.other.now c.args.subject.now.net c.args.subject.now.slot c.args.subject.now.node (member_names c.args.members.now) c.requires.members c.requires.hosted _ _ c.nodes.ensures c.nodes-2.ensures c.in_default.ensures
    _ _ c.in-Some-config.ensures c.in-Some-config-2.ensures (c.has_same_reserves.ensures.0 c.if-not-has_same_reserves.false) _ c.in-Some-roster.ensures c.in_default-least_outside.ensures in
    let x = inputs_are c.args.subject.now.net c.args.subject.now.slot _ (member_names c.args.members.now) c.requires.members c.args.one.now _ (sym c.in-Some-config.ensures) _ c.calls.ensures in
    let y = inputs_are c.args.subject.now.net c.args.subject.now.slot _ (member_names c.args.members.now) c.requires.members c.args.other.now _ (sym c.in-Some-config-2.ensures) _ c.calls-2.ensures in
    (r.cast, (r.reserves, (r.inside, judged_as c.in_ok-difference.difference (Some c.in-Some-difference.place) c.in-Some-difference.is x y c.in_ok-difference.ensures)))

pub returns : goal.returns
returns c =
    let r = are_reserved c.args.one.now c.args.other.now c.args.subject.now.net c.args.subject.now.slot c.args.subject.now.node (member_names c.args.members.now) c.requires.members c.requires.hosted _ _ c.nodes.ensures c.nodes-2.ensures c.in_default.ensures
    _ _ c.in-Some-config.ensures c.in-Some-config-2.ensures (c.has_same_reserves.ensures.0 c.if-not-has_same_reserves.false) _ c.in-Some-roster.ensures c.in_default-least_outside.ensures in
    let x = inputs_are c.args.subject.now.net c.args.subject.now.slot _ (member_names c.args.members.now) c.requires.members c.args.one.now _ (sym c.in-Some-config.ensures) _ c.calls.ensures in
    let y = inputs_are c.args.subject.now.net c.args.subject.now.slot _ (member_names c.args.members.now) c.requires.members c.args.other.now _ (sym c.in-Some-config-2.ensures) _ c.calls-2.ensures in
    let same = judged_as c.in_ok-difference.difference None c.in_default-difference.is x y c.in_ok-difference.ensures in
    let there = c.of.ensures ∙ (c.in_ok-replies.ensures ∙ ap (λ (S : Names). replied_to S c.args.subject.now.slot (answers reading c.args.other.now c.args.subject.now.net)) (fun_ext c.requires.members)) in
    (r.cast, (r.reserves, (r.inside, (same, (there ∙ sym (c.are_never_crowded_out.ensures r.cast r.reserves r.inside (ap (map without_size) same)).0, there)))))
