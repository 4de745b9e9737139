use Rattle.std.proofs.Common.{rules, ◌≡◌, ◌∙◌, subst}
use Rattle.std.specs.Prelude.{IfOk, option_map}
use Rattle.line_script.specs.Fronts.{inner_front}
use Rattle.line_script.proofs.FrontLaws.{read_more, read_last, read_wrong, inner_levels, set_read}
use Rattle.line_script.proofs.slices.+reading.Goals as goal

pub inner_at-returns-in_default : goal.inner_at-returns-in_default
inner_at-returns-in_default t c = subst (λ x. IfOk c.set_at.result (λ o. option_map (λ r. (r.0, r.1.now)) o ≡ x)) (inner_levels c.args.levels c.args.text.now (search rules)) c.set_at.ensures

pub members_at-loop-rest-preserved : goal.members_at-loop-rest-preserved
members_at-loop-rest-preserved t c = read_more (inner_front c.args.levels) _ _ _ _ _ _ (search rules) (search rules) c.in_ok-push.ensures.items (search rules) (search rules) c.loop-rest.invariant

pub members_at-returns-in-93 : goal.members_at-returns-in-93
members_at-returns-in-93 t c = read_last (inner_front c.args.levels) _ _ _ _ _ _ (search rules) (search rules) (c.shrink_to_fit.ensures.items ∙ c.in_ok-push.ensures.items) (search rules) (search rules) c.loop-rest.invariant

pub members_at-returns-in_default-after : goal.members_at-returns-in_default-after
members_at-returns-in_default-after t c = read_wrong (inner_front c.args.levels) _ _ c.in-Some.after.now c.in-Some.member _ (search rules) (search rules) (λ some. search rules) (λ some. search rules) c.loop-rest.invariant

pub set_at-returns-in-Some-2 : goal.set_at-returns-in-Some-2
set_at-returns-in-Some-2 t c = set_read (inner_front c.args.levels) c.args.text.now c.in-Some.rest.now _ c.in-Some.threshold c.in-Some-2.members.items _ c.in-Some.ensures (search rules) c.new.ensures.threshold c.new.ensures.members
