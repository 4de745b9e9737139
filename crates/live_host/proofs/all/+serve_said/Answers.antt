use Rattle.std.proofs.Common.{[], append-nil, sym}
use Rattle.live_host.proofs.Each.{all-served, first-and-rest, none-served, on-ok}
use Rattle.live_host.proofs.all.+serve_said.Goals as goal

pub returns-in_default : goal.returns-in_default
returns-in_default g t c = ([], sym (append-nil c.args.answers.now.items), none-served c.args.bytes.now c.args.names.now c.args.network.now c.in_default.len_below)

pub returns : goal.returns
returns g t c =
    on-ok c.serve_said.result c.serve_said.ensures
    (all-served c.args.bytes.now c.args.names.now _ c.node-item.result c.args.network.now c.serve_one.new.network c.serve_said.new.network c.in_ok-answer.answer c.args.answers.now.items c.push.new.answers.items c.serve_said.new.answers.items
    (first-and-rest c.args.names.now c.node-item.result c.node-item.is c.in-len1-up.len_at_least) c.in_ok-answer.ensures c.in_ok-push.ensures)
