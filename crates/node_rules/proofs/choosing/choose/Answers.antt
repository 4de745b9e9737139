use Rattle.std.proofs.Common.{◌++◌, ◌+◌, ◌∷◌, [], ℕ, List, sym, ◌∙◌, subst, arith}
use Rattle.node_rules.proofs.Chosen.{GoesOn, passed_over, one_more}
use Rattle.node_rules.proofs.choosing.choose.Goals as goal
use Rattle.node_rules.proofs.choosing.choose.Goals.{then-branch+in_ok-try_copy+in_ok-push, else-branch}

pub loop-value-preserved : goal.loop-value-preserved
loop-value-preserved g c =
    let p = g.T.ValueTest.passes c.args.test.now in
    let x = c.value-item.result in
    let at = c.loop-value in
    let so_far = λ (chosen : List (List ℕ)) (room : ℕ). GoesOn p c.args.most c.args.values.now chosen room (at.value-index + 1) in
    elim c.if-branch.branch [
      | then-branch+in_ok-try_copy+in_ok-push w ↦ subst (λ chosen. so_far chosen c.if-branch.room) (sym (w.chosen-is ∙ (simp w.in_ok-try_copy.ensures at w.in_ok-push.ensures.ok))) (subst (λ room. so_far (at.chosen ++ x ∷ []) room) (sym w.room-is)
          (one_more p c.args.most c.args.values.now at.chosen at.room at.value-index x c.loop-value-test.true c.value-item.is at.invariant (sym c.in_ok-test.ensures ∙ w.if-branch.true) (omega arith)))
      | else-branch w ↦ subst (λ chosen. so_far chosen c.if-branch.room) (sym w.chosen-is) (subst (λ room. so_far at.chosen room) (sym w.room-is)
          (passed_over p c.args.most c.args.values.now at.chosen at.room at.value-index x c.loop-value-test.true c.value-item.is at.invariant (sym c.in_ok-test.ensures ∙ w.if-branch.false)))
    ]
