use Rattle.std.proofs.Common.{◌∙◌, subst, sym, Some}
use Rattle.std.proofs.lemmas.Bool.{true≢false}
use Rattle.node_rules.proofs.SearchLaws.{comes_down}
use Rattle.node_rules.proofs.LowestLaws.{IsLeast, least_at_last, least_passes, least_fails}
use Rattle.node_rules.proofs.lowest.lowest_of.Goals as goal
use Rattle.node_rules.proofs.lowest.lowest_of.Goals.{else-eq-via-then-eq+in_ok-check+else-branch, else-eq-via-else-eq}

pub loop-next-smaller-then-branch : goal.loop-next-smaller-then-branch
loop-next-smaller-then-branch g c = comes_down (g.C.Candidates.listed c.args.candidates.now c.args.mention) (g.T.Check.holds c.args.test.now) (Some c.loop-next.bound) c.in-Some.next (sym (simp c.reborrow.ensures at c.next.ensures) ∙ c.in-Some.is)

pub loop-next-smaller : goal.loop-next-smaller
loop-next-smaller g c = comes_down (g.C.Candidates.listed c.args.candidates.now c.args.mention) (g.T.Check.holds c.args.test.now) (Some c.loop-next.bound) c.in-Some.next (sym (simp c.reborrow.ensures at c.next.ensures) ∙ c.in-Some.is)

pub loop-next-preserved-then-branch : goal.loop-next-preserved-then-branch
loop-next-preserved-then-branch g c = subst (λ n. IsLeast (g.C.Candidates.listed c.args.candidates.now c.args.mention) (g.T.Check.holds c.args.test.now) c.args.end.now c.in-Some.next n) (sym c.counter-least.ensures)
    (least_passes (g.C.Candidates.listed c.args.candidates.now c.args.mention) (g.T.Check.holds c.args.test.now) c.args.end.now c.loop-next.bound c.in-Some.next c.loop-next.least c.loop-next.invariant
    (sym (simp c.reborrow.ensures at c.next.ensures) ∙ c.in-Some.is) (sym (simp c.value.ensures at c.eq.ensures) ∙ c.if-eq.true) (sym c.in_ok-check.ensures ∙ c.if-branch.true))

pub loop-next-preserved : goal.loop-next-preserved
loop-next-preserved g c = least_fails (g.C.Candidates.listed c.args.candidates.now c.args.mention) (g.T.Check.holds c.args.test.now) c.args.end.now c.loop-next.bound c.in-Some.next c.loop-next.least c.loop-next.invariant
    (sym (simp c.reborrow.ensures at c.next.ensures) ∙ c.in-Some.is) (λ v. elim c.else-eq.branch [
      | else-eq-via-then-eq+in_ok-check+else-branch w ↦ sym w.in_ok-check.ensures ∙ w.if-branch.false
      | else-eq-via-else-eq w ↦ absurd (true≢false (sym v ∙ sym (simp c.value.ensures at c.eq.ensures) ∙ w.if-eq.false))
    ])

pub returns : goal.returns
returns g c = least_at_last (g.C.Candidates.listed c.args.candidates.now c.args.mention) (g.T.Check.holds c.args.test.now) c.args.end.now c.loop-next.bound c.loop-next.least c.loop-next.invariant (sym (simp c.reborrow.ensures at c.next.ensures) ∙ c.in_default.is)
