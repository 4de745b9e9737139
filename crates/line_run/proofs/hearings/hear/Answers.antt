use Rattle.std.proofs.Common.{◌++◌, ◌∙◌}
use Rattle.scp_spec.specs.Networks.{emissions}
use Rattle.host_network.specs.Marks.{named}
use Rattle.line_run.proofs.HearingLaws.{hearing-refused, hears-another, hears-not-its-own}
use Rattle.line_run.proofs.hearings.hear.Goals as goal

pub returns-then-is_same : goal.returns-then-is_same
returns-then-is_same g c = hears-not-its-own c.args.number c.args.slot c.args.emission.now c.args.node c.args.world.now c.args.waiting.now.items c.is_same.result c.is_same.ensures c.if-is_same.true

pub returns-in_ok-push_named-in-Ok : goal.returns-in_ok-push_named-in-Ok
returns-in_ok-push_named-in-Ok g c =
    hears-another c.args.number c.args.slot c.args.emission.now c.args.node c.args.world.now c.apply.new.self c.args.waiting.now.items c.push_named.new.waiting.items c.is_same.result c.hearing.result c.in-Ok.given
    c.is_same.ensures c.if-is_same.false c.hearing.ensures c.in-Ok.ensures.answer c.in-Ok.ensures.marks
    (c.in_ok-push_named-in-Ok.ensures ∙ (λ i. c.args.waiting.now.items ++ named (emissions (c.deref.ensures.value i)) (c.deref-in-Ok.ensures.value i)))

pub returns-in-Err : goal.returns-in-Err
returns-in-Err g c =
    hearing-refused c.args.number c.args.slot c.args.emission.now c.args.node c.args.world.now c.apply.new.self c.args.waiting.now.items c.is_same.result c.hearing.result c.in-Err.refusal
    c.is_same.ensures c.if-is_same.false c.hearing.ensures c.in-Err.ensures.answer
