use Rattle.std.proofs.Common.{◌≡◌, sym, subst}
use Rattle.scp_spec.specs.Nodes.{fresh}
use Rattle.scp_spec.specs.Limits.{ComesOfEvents}
use Rattle.scp_spec.specs.Limits.ComesOfEvents.{begin}
use Rattle.node_core.specs.Listening.{node_of}
use Rattle.node_core.proofs.node.Node.new.Goals as goal

pub returns-clause-node : goal.returns-clause-node
unfolding fresh
returns-clause-node c = λ i. node_of (c.new.ensures i) (c.nothing.ensures i) (c.none.ensures i)

pub invariant_of-result : goal.invariant_of-result
unfolding fresh
invariant_of-result c =
    let same : fresh c.args.slot c.args.name c.args.slices ≡ node_of c.new.result c.nothing.result c.none.result = λ i. node_of (sym c.new.ensures i) (sym c.nothing.ensures i) (sym c.none.ensures i) in
    subst ComesOfEvents same (begin c.args.slot c.args.name c.args.slices)
