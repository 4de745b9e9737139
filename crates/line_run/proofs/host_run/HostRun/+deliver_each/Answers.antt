use Rattle.std.proofs.Common.{[], append-nil, sym}
use Rattle.line_run.proofs.HearingLaws.{all-delivered, first-and-rest, none-delivered, on-ok}
use Rattle.line_run.proofs.host_run.HostRun.+deliver_each.Goals as goal

pub returns-in_default : goal.returns-in_default
returns-in_default g t c = ([], sym (append-nil c.args.answers.now.items), none-delivered c.args.number c.args.bytes.now c.args.names.now c.args.self.now c.in_default.len_below)

pub returns : goal.returns
returns g t c =
    on-ok c.deliver_each.result c.deliver_each.ensures
    (all-delivered c.args.number c.args.bytes.now c.args.names.now _ c.node-item.result c.args.self.now c.deliver.new.self c.deliver_each.new.self c.in_ok-answer.answer c.args.answers.now.items c.push.new.answers.items c.deliver_each.new.answers.items
    (first-and-rest c.args.names.now c.node-item.result c.node-item.is c.in-len1-up.len_at_least) c.in_ok-answer.ensures c.in_ok-push.ensures)
