use Rattle.line_run.proofs.HearingLaws.{first-and-rest, nobody-told, on-ok, told-first}
use Rattle.line_run.proofs.hearings.+tell_others.Goals as goal

pub returns-in_default : goal.returns-in_default
returns-in_default g t c = nobody-told c.args.number c.args.slot c.args.emission.now c.args.names.now c.args.world.now c.args.waiting.now.items c.in_default.len_below

pub returns : goal.returns
returns g t c =
    on-ok c.tell_others.result c.tell_others.ensures
    (told-first c.args.number c.args.slot c.args.emission.now c.node-item.result _ c.args.names.now c.args.world.now c.hear.new.world c.tell_others.new.world c.args.waiting.now.items c.hear.new.waiting.items c.tell_others.new.waiting.items c.in_ok-ended.ended
    (first-and-rest c.args.names.now c.node-item.result c.node-item.is c.in-len1-up.len_at_least) c.in_ok-ended.ensures c.in_ok-but_for_memory.ensures)
