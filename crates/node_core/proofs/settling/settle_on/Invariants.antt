use Rattle.std.proofs.Common.{◌≡◌, ◌-◌}
use Rattle.scp_spec.specs.Nodes.{settle, most_passes}
use Rattle.scp_spec.specs.Passes.{balloted_in}
use Rattle.node_core.proofs.settling.settle_on.Given as goal

-- the passes that are left lead where all of them do
abbrev pub invariant-loop-number : goal.invariant-loop-number
invariant-loop-number g l =
    let f = balloted_in (g.S.Sight.seen l.context.sight.now) l.context.inputs.now in
    settle (most_passes - l.number) f l.votes ≡ settle (most_passes - 1) f l.initial.votes
