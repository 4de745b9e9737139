use Rattle.std.proofs.Common.{refl}
use Rattle.std.specs.Prelude.{string_bytes}
use Rattle.live_network.specs.Shown.{front_of, known_lines, node_lines, silent_line}
use Rattle.live_network.proofs.Silence.{joined}
use Rattle.live_network.proofs.nodes.push_node.Goals as goal

pub returns : goal.returns
returns g c =
    let n = c.args.seen.now.node.now.node in
    let front = front_of c.args.line c.args.network c.args.slot n.name in
    let s = c.in_ok-push_silent.ensures in (
      node_lines front n s.0,
      (s.0, s.1, refl),
      joined (string_bytes c.args.text.now) (string_bytes c.push_known.new.text) (string_bytes c.push_silent.new.text) (known_lines front n) (silent_line front s.0) c.in_ok-push_known.ensures s.2,
    )
