use Rattle.std.proofs.Common.{◌∙◌, ℕ, Bor, List, map, refl, sym, ap}
use Rattle.std.proofs.lemmas.List.{take_all}
use Rattle.scp_types.specs.declared.event.Event.{Event}
use Rattle.scp_spec.specs.Sets.{among}
use Rattle.host_closure.specs.Announcing.{member_names}
use Rattle.host_network.specs.Decoding.{step_of}
use Rattle.host_compare.specs.Submitted.{concerning_steps_in}
use Rattle.host_compare.proofs.ConcerningSteps.{listed_more, listed_still, steps_at_first}
use Rattle.host_compare.proofs.concerning.concerning_events.Goals as goal
use Rattle.host_compare.proofs.concerning.concerning_events.Goals.{then-branch+in_ok-push, else-branch}

pub loop-call-init : goal.loop-call-init
loop-call-init c = ap (map (λ (e : Bor Event). step_of e.now)) c.new-events.ensures.items ∙ sym (steps_at_first (among (member_names c.args.members.now)) c.args.slot c.args.net c.args.calls.now)

pub loop-call-preserved : goal.loop-call-preserved
loop-call-preserved c =
    let R = among (member_names c.args.members.now) in
    let f = λ (e : Bor Event). step_of e.now in
    elim c.if-branch.branch [
      | then-branch+in_ok-push w ↦
          ap (λ v. map f v.items) w.events-is ∙ ap (map f) w.in_ok-push.ensures.items
          ∙ listed_more R c.args.slot c.args.net c.args.calls.now c.loop-call.call-index c.call-item.result c.loop-call-test.true c.call-item.is (sym c.in_ok-concerns_members.ensures ∙ w.if-branch.true) c.loop-call.events.items _ refl c.loop-call.invariant
      | else-branch w ↦
          ap (λ v. map f v.items) w.events-is ∙ c.loop-call.invariant
          ∙ listed_still R c.args.slot c.args.net c.args.calls.now c.loop-call.call-index c.call-item.result c.loop-call-test.true c.call-item.is (sym c.in_ok-concerns_members.ensures ∙ w.if-branch.false)
    ]

pub returns : goal.returns
returns c = c.loop-call.invariant ∙ ap (λ (cs : List (ℕ × Event)). concerning_steps_in (among (member_names c.args.members.now)) c.args.slot c.args.net cs) (take_all c.loop-call.call-index c.args.calls.now c.loop-call-test.false)
