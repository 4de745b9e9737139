use Rattle.std.proofs.Common.{◌++◌}
use Rattle.std.specs.Prelude.{codes, string_bytes}
use Rattle.live_network.specs.Shown.{front_of, values_line}
use Rattle.live_network.proofs.Silence.{joined}
use Rattle.live_network.proofs.nodes.push_votes.Goals as goal

pub returns : goal.returns
returns c =
    let w = c.args.votes.now in
    let front = front_of c.args.place.line c.args.place.network c.args.place.slot c.args.node.now in
    let voted = values_line front (codes "voted") w.voted in
    let accepted = values_line front (codes "accepted") w.accepts in
    let confirmed = values_line front (codes "confirmed") w.confirms in
    let old = string_bytes c.args.text.now in
    let one = string_bytes c.push_values.new.text in
    let two = string_bytes c.push_values-2.new.text in
    let new = string_bytes c.push_values-3.new.text in
    joined old one new voted (accepted ++ confirmed) c.in_ok-push_values.ensures
    (joined one two new accepted confirmed c.in_ok-push_values-2.ensures c.in_ok-push_values-3.ensures)
