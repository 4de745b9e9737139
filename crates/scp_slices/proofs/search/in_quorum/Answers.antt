use Rattle.std.proofs.Common.{◌≡◌, ℕ, ap, sym, ◌∙◌, length, List, filter, arith, subst}
use Rattle.scp_spec.specs.Sets.{among}
use Rattle.scp_slices.proofs.Kept.{length-filter_le}
use Rattle.scp_slices.proofs.Fixed.{IsLeft, still_left, answers, stays}
use Rattle.scp_slices.proofs.search.in_quorum.Goals as goal

pub returns-then-len : goal.returns-then-len
returns-then-len g c =
    let sat = g.S.Family.SliceFamily.sat in
    let slices_at = g.S.SlicesOf.slices_at c.args.slices_of.now in
    let us = c.loop-left.left.items in
    let kept : c.in_ok-satisfied.satisfied.items ≡ filter (stays sat slices_at us) us = c.in_ok-satisfied.ensures ∙ ap (λ (xs : List ℕ). filter (stays sat slices_at xs) xs) c.deref.ensures.value in
    let found : c.is_among.result ≡ among us c.args.node.now = rw (← c.deref-then-len.ensures.value) c.is_among.ensures in
    answers sat slices_at c.args.supporters.now us c.args.node.now c.is_among.result c.loop-left.invariant
    (omega (arith, ap length kept, c.in_ok-satisfied.satisfied.ok.0, c.loop-left.left.ok.0, c.if-len.true)) found

pub loop-left-smaller : goal.loop-left-smaller
loop-left-smaller g c =
    let sat = g.S.Family.SliceFamily.sat in
    let slices_at = g.S.SlicesOf.slices_at c.args.slices_of.now in
    let us = c.loop-left.left.items in
    let kept : c.in_ok-satisfied.satisfied.items ≡ filter (stays sat slices_at us) us = c.in_ok-satisfied.ensures ∙ ap (λ (xs : List ℕ). filter (stays sat slices_at xs) xs) c.deref.ensures.value in
    omega (arith, ap length kept, length-filter_le (stays sat slices_at us) us, c.in_ok-satisfied.satisfied.ok.0, c.loop-left.left.ok.0, c.if-len.false)

pub loop-left-preserved : goal.loop-left-preserved
loop-left-preserved g c =
    let sat = g.S.Family.SliceFamily.sat in
    let slices_at = g.S.SlicesOf.slices_at c.args.slices_of.now in
    let us = c.loop-left.left.items in
    let kept : c.in_ok-satisfied.satisfied.items ≡ filter (stays sat slices_at us) us = c.in_ok-satisfied.ensures ∙ ap (λ (xs : List ℕ). filter (stays sat slices_at xs) xs) c.deref.ensures.value in
    let next = still_left sat slices_at g.met.S.Family.SliceFamily.monotone c.args.supporters.now us c.loop-left.invariant in
    subst (λ (xs : List ℕ). IsLeft sat slices_at c.args.supporters.now xs) (sym kept) next
