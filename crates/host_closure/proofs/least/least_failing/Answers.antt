use Rattle.std.proofs.Common.{◌∙◌, sym, subst, ℕ, take, ◌+◌, arith, true, false}
use Rattle.std.proofs.lemmas.Fn.{says_at}
use Rattle.std.proofs.lemmas.List.{length-map}
use Rattle.std.specs.Fn.{FnReturnsAt}
use Rattle.host_closure.specs.Announcing.{member_names}
use Rattle.host_closure.proofs.LeastNames.{IsLeastSoFar, least_stays, least_moves}
use Rattle.host_closure.proofs.Places.{past_end}
use Rattle.host_closure.proofs.least.least_failing.Goals as goal
use Rattle.host_closure.proofs.least.least_failing.Goals.{in-Some+then-not-test, in-Some+else-not-test, in_default}

pub loop-place-preserved : goal.loop-place-preserved
loop-place-preserved g c =
    let Bad = λ (u : ℕ). FnReturnsAt g.F.Fn c.args.test u false in
    let Good = λ (u : ℕ). FnReturnsAt g.F.Fn c.args.test u true in
    let list = member_names c.args.members.now in
    elim c.match-name.branch [
      | in-Some+then-not-test w ↦
          subst (λ o. IsLeastSoFar Bad Good (take (c.loop-place.place + 1) list) o) (sym (w.least-is ∙ w.lesser-least.ensures))
          (least_moves Bad Good list c.loop-place.place w.in-Some.name (sym w.in-Some.ensures) c.loop-place.least c.loop-place.invariant (says_at g.F.Fn w.test.ensures w.if-not-test.true))
      | in-Some+else-not-test w ↦
          subst (λ o. IsLeastSoFar Bad Good (take (c.loop-place.place + 1) list) o) (sym w.least-is)
          (least_stays Bad Good list c.loop-place.place w.in-Some.name (sym w.in-Some.ensures) c.loop-place.least c.loop-place.invariant (says_at g.F.Fn w.test.ensures w.if-not-test.false))
      | in_default w ↦
          let past = past_end list c.loop-place.place (sym c.name.ensures ∙ w.in_default.is) in
          let same = length-map c.args.members.now (λ (m : ℕ × ℕ). m.0) in
          absurd (omega (arith, past, same, c.loop-place-test.true, c.len-place-end.ensures.value))
    ]
