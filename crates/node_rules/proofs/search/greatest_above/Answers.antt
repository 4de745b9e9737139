use Rattle.std.proofs.Common.{◌∙◌, ap, sym, Some}
use Rattle.node_rules.proofs.SearchLaws.{none_left, too_low, found, tried_next, comes_down}
use Rattle.node_rules.proofs.search.greatest_above.Goals as goal

pub returns-in_default : goal.returns-in_default
returns-in_default g c = sym (none_left (g.C.Candidates.listed c.args.candidates.now c.args.mention) (g.T.Check.holds c.args.test.now) c.loop-next.bound c.args.there.now c.loop-next.invariant (sym c.next.ensures ∙ c.in_default.is))

pub returns-then-not-is_above : goal.returns-then-not-is_above
returns-then-not-is_above g c = sym (too_low (g.C.Candidates.listed c.args.candidates.now c.args.mention) (g.T.Check.holds c.args.test.now) c.loop-next.bound c.args.there.now c.in-Some.next c.loop-next.invariant (sym c.next.ensures ∙ c.in-Some.is) (sym c.is_above.ensures ∙ c.if-not-is_above.true))

pub returns-then-branch : goal.returns-then-branch
returns-then-branch g c = ap Some c.in_ok-found.ensures ∙ sym (found (g.C.Candidates.listed c.args.candidates.now c.args.mention) (g.T.Check.holds c.args.test.now) c.loop-next.bound c.args.there.now c.in-Some.next c.loop-next.invariant (sym c.next.ensures ∙ c.in-Some.is) (sym c.is_above.ensures ∙ c.if-not-is_above.false) (sym c.in_ok-check.ensures ∙ c.if-branch.true))

pub loop-next-smaller : goal.loop-next-smaller
loop-next-smaller g c = comes_down (g.C.Candidates.listed c.args.candidates.now c.args.mention) (g.T.Check.holds c.args.test.now) c.loop-next.bound c.in-Some.next (sym c.next.ensures ∙ c.in-Some.is)

pub loop-next-preserved : goal.loop-next-preserved
loop-next-preserved g c = tried_next (g.C.Candidates.listed c.args.candidates.now c.args.mention) (g.T.Check.holds c.args.test.now) c.loop-next.bound c.in-Some.next c.loop-next.invariant (sym c.next.ensures ∙ c.in-Some.is) (sym c.in_ok-check.ensures ∙ c.if-branch.false)
