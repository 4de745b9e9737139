use Rattle.line_run.proofs.HearingLaws.{first-and-rest, heard-first, if-ok, nobody-hears, refused-first}
use Rattle.line_run.proofs.hearings.+let_others_hear.Goals as goal

pub returns-in_default : goal.returns-in_default
returns-in_default g t c = nobody-hears c.args.number c.args.slot c.args.emission.now c.args.names.now c.args.world.now c.args.waiting.now.items c.in_default.len_below

pub returns-in-Some : goal.returns-in-Some
returns-in-Some g t c =
    refused-first c.args.number c.args.slot c.args.emission.now c.node-item.result _ c.args.names.now c.args.world.now c.hear.new.world c.args.waiting.now.items c.hear.new.waiting.items _ c.in-Some.refusal
    (first-and-rest c.args.names.now c.node-item.result c.node-item.is c.in-len1-up.len_at_least) c.in_ok-refusal.ensures c.in-Some.is

pub returns-in-None : goal.returns-in-None
returns-in-None g t c =
    if-ok c.let_others_hear.result c.let_others_hear.ensures
    (λ ended rest. heard-first c.args.number c.args.slot c.args.emission.now c.node-item.result _ c.args.names.now c.args.world.now c.hear.new.world c.let_others_hear.new.world c.args.waiting.now.items c.hear.new.waiting.items c.let_others_hear.new.waiting.items _ ended
    (first-and-rest c.args.names.now c.node-item.result c.node-item.is c.in-len1-up.len_at_least) c.in_ok-refusal.ensures c.in-None.is rest)
