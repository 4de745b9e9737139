use Rattle.std.proofs.Common.{◌≡◌, ◌∙◌, OnOk, if◌then◌else◌, sym, ap, subst}
use Rattle.scp_types.specs.declared.kind.Kind.{Kind}
use Rattle.scp_spec.specs.Views.{passes}
use Rattle.scp_spec.specs.Passes.{has_counter}
use Rattle.scp_spec.specs.States.{position}
use Rattle.node_rules.specs.Drafted.{Drafted, after}
use Rattle.node_rules.proofs.ArmLaws.{arm-by}
use Rattle.node_rules.proofs.counters.arm.Goals as goal

pub returns-then-branch : goal.returns-then-branch
returns-then-branch g c =
    let d = c.args.draft.now in
    let b = c.in-Some.ballot in
    let all = arm-by (g.S.Sight.seen c.args.sight.now) b c.votes-votes.result.now c.in_ok-is_quorum_at.field-0 d c.votes-votes.ensures c.in-Some.is (c.in_ok-is_quorum_at.ensures ∙ ap (λ p. (g.S.Sight.seen c.args.sight.now).quorum Kind.Ballot (passes (has_counter b.counter) p) (has_counter b.counter)) (c.requires ∙ ap position (sym c.votes-votes.ensures))) in
    let on = ap (λ t. if t then after (λ v. record v { armed = b.counter }) d else d) (sym c.if-branch.true) ∙ all in
    subst (λ (x : Drafted). OnOk c.set_armed.result (c.set_armed.new.self ≡ x)) on c.set_armed.ensures.ok

pub returns-else-branch : goal.returns-else-branch
returns-else-branch g c =
    let d = c.args.draft.now in
    let b = c.in-Some.ballot in
    let all = arm-by (g.S.Sight.seen c.args.sight.now) b c.votes-votes.result.now c.in_ok-is_quorum_at.field-0 d c.votes-votes.ensures c.in-Some.is (c.in_ok-is_quorum_at.ensures ∙ ap (λ p. (g.S.Sight.seen c.args.sight.now).quorum Kind.Ballot (passes (has_counter b.counter) p) (has_counter b.counter)) (c.requires ∙ ap position (sym c.votes-votes.ensures))) in
    ap (λ t. if t then after (λ v. record v { armed = b.counter }) d else d) (sym c.if-branch.false) ∙ all
