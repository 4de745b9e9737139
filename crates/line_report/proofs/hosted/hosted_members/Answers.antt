use Rattle.std.proofs.Common.{◌∙◌, ◌+◌, ◌++◌, ◌∷◌, [], length, refl, sym, ap, subst, take, arith}
use Rattle.std.proofs.lemmas.List.{take_all}
use Rattle.std.proofs.lemmas.Option.{slice_get_read}
use Rattle.scp_spec.specs.Sets.{among}
use Rattle.host_closure.specs.Announcing.{slices_then}
use Rattle.line_report.proofs.Names.{taken_more}
use Rattle.line_report.proofs.Hosting.{AreFound, one_passed, one_found, all_found}
use Rattle.line_report.proofs.hosted.hosted_members.Goals as goal
use Rattle.line_report.proofs.hosted.hosted_members.Goals.{in-Some+in_ok-names+in_ok-push, in_default}

pub loop-node-preserved : goal.loop-node-preserved
loop-node-preserved g c =
    let at_end = slices_then (g.J.Announcements.nodes c.args.journal.now) c.args.slot (g.J.Announcements.entries c.args.journal.now) in
    let list = c.args.names.now in
    let done = take c.loop-node.node-index list in
    let at = slice_get_read list (length list) c.loop-node.node-index c.node-item.result refl c.loop-node-test.true c.node-item.is in
    let more = sym (taken_more list c.loop-node.node-index c.node-item.result at) in
    elim c.match-slices_then.branch [
      | in-Some+in_ok-names+in_ok-push w ↦
          let one = one_found at_end (among list) done c.loop-node.hosted.items c.node-item.result _ w.in_ok-names.names.items (sym w.in-Some.ensures) w.in_ok-names.ensures c.loop-node.invariant in
          subst (λ v. AreFound at_end (among list) (take (c.loop-node.node-index + 1) list) v) (sym {b = c.loop-node.hosted.items ++ (c.node-item.result, w.in_ok-names.names.items) ∷ []} (ap (λ v. v.items) w.hosted-is ∙ w.in_ok-push.ensures.items))
          (subst (λ v. AreFound at_end (among list) v (c.loop-node.hosted.items ++ (c.node-item.result, w.in_ok-names.names.items) ∷ [])) more one)
      | in_default w ↦
          let one = one_passed at_end (among list) done c.loop-node.hosted.items c.node-item.result (sym w.in_default.ensures) c.loop-node.invariant in
          subst (λ v. AreFound at_end (among list) (take (c.loop-node.node-index + 1) list) v) (sym (ap (λ v. v.items) w.hosted-is))
          (subst (λ v. AreFound at_end (among list) v c.loop-node.hosted.items) more one)
    ]

pub returns : goal.returns
returns g c =
    let at_end = slices_then (g.J.Announcements.nodes c.args.journal.now) c.args.slot (g.J.Announcements.entries c.args.journal.now) in
    let list = c.args.names.now in
    all_found at_end (among list) list c.loop-node.hosted.items c.requires (λ u. refl)
    (subst (λ v. AreFound at_end (among list) v c.loop-node.hosted.items) (take_all c.loop-node.node-index list (omega (arith, c.loop-node-test.false))) c.loop-node.invariant)
