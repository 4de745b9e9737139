use Rattle.std.proofs.Common.{◌∙◌, [], Vec, append-nil, ap, sym}
use Rattle.std.proofs.lemmas.Result.{on_ok_weaker}
use Rattle.std.specs.Global.{Global}
use Rattle.scp_types.specs.declared.event.Event.{Event}
use Rattle.scp_spec.specs.Networks.Reply.{Done, Refused}
use Rattle.host_config.specs.Configs.{names_of}
use Rattle.host_network.specs.declared.emission.Emission.{Emission}
use Rattle.host_network.specs.Decoding.{step_of}
use Rattle.host_network.specs.Standing.{machine_of}
use Rattle.live_network.specs.Telling.{emissions_of}
use Rattle.live_network.proofs.Leading.{answered-done, answered-refused, hears-another, hears-not-its-own, on-both}
use Rattle.live_network.proofs.hearing.hear.Goals as goal

pub returns-then-is_same-clause-heard : goal.returns-then-is_same-clause-heard
returns-then-is_same-clause-heard g c =
    hears-not-its-own c.args.slot (names_of c.args.network.now.config.nodes) c.args.emission.now c.args.node (machine_of c.args.network.now) c.args.following.now c.is_same.result c.is_same.ensures c.if-is_same.true

pub returns-in-Ok-clause-heard : goal.returns-in-Ok-clause-heard
returns-in-Ok-clause-heard g c =
    let event = c.hearing-event.result in
    let given = c.in-Ok.outcome.given in
    let old = machine_of c.args.network.now in
    let new = machine_of c.apply-answer.new.self in
    on-both c.note.result c.note.ensures.emissions c.note.ensures.told
    (hears-another c.args.slot c.args.emission.now c.args.node old new c.args.following.now c.note.new.self event (Done given.outs.items) (emissions_of given) c.is_same.result c.is_same.ensures c.if-is_same.false c.hearing-event.ensures
    (answered-done old new (step_of event) given c.in-Ok.ensures.applied.step c.in-Ok.ensures.applied.marks))

pub returns-in-Err-clause-heard : goal.returns-in-Err-clause-heard
returns-in-Err-clause-heard g c =
    let event = c.hearing-event.result in
    let before = c.args.following.now in
    let old = machine_of c.args.network.now in
    let new = machine_of c.apply-answer.new.self in
    let emitted = ap (λ (es : Vec Emission Global). es.items) c.tell.ensures.emissions ∙ sym (append-nil before.emissions.items) in
    on_ok_weaker c.tell.result
    (hears-another c.args.slot c.args.emission.now c.args.node old new before c.tell.new.self event (Refused c.in-Err.refusal) [] c.is_same.result c.is_same.ensures c.if-is_same.false c.hearing-event.ensures
    (answered-refused old new (step_of event) c.in-Err.refusal c.in-Err.ensures.err c.in-Err.ensures.same) emitted)
    c.tell.ensures.told
