use Rattle.std.proofs.Common.{◌∙◌, arith, sym}
use Rattle.node_view.proofs.ListedLaws.{same_ballots}
use Rattle.node_view.proofs.listed.order.Goals as goal

pub returns-then-is_same : goal.returns-then-is_same
returns-then-is_same c =
    same_ballots c.args.ballot.now c.args.other.now (sym c.counter.ensures ∙ omega (arith, c.if-counter-other.false))
    (sym c.value.ensures ∙ c.is_same.ensures.0 c.if-is_same.true)
