use Rattle.std.proofs.Common.{◌<◌, length, rules}
use Rattle.line_script.proofs.StreamLaws.{next_read, too_much}
use Rattle.line_script.proofs.stream.next_bytes.Goals as goal

pub returns-in-Ok-clause-too_long : goal.returns-in-Ok-clause-too_long
returns-in-Ok-clause-too_long g c e =
    let over : c.args.room < length c.read_until.new.buf.items = search rules in
    too_much _ _ _ _ _ c.new-bytes.ensures.items c.read_until.ensures.none_lost over

pub returns-in-Ok-2-clause-next : goal.returns-in-Ok-2-clause-next
returns-in-Ok-2-clause-next g c = next_read _ _ _ _ c.new-bytes.ensures.items c.read_until.ensures.none_lost c.read_until.ensures.stops c.in-Ok-2.ensures.bytes
