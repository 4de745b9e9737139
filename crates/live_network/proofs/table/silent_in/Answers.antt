use Rattle.std.proofs.Common.{ap, ◌∙◌, filter}
use Rattle.scp_spec.specs.Satisfaction.{names}
use Rattle.scp_spec.specs.Sets.{among}
use Rattle.live_network.specs.Shown.{is_silent}
use Rattle.live_network.proofs.Silence.{are_silent}
use Rattle.live_network.proofs.table.silent_in.Goals as goal

pub returns : goal.returns
returns g c =
    let n = c.args.node.now.node in
    are_silent n c.in_ok-names.names.items c.in_ok-silent.silent.items c.in_ok-names.ensures.ascending
    (λ u. c.in_ok-names.ensures.all u ∙ ap (λ q. among (names q) u) c.slices.ensures)
    (c.in_ok-silent.ensures ∙ ap (filter (is_silent n)) c.deref.ensures.value)
