use Rattle.std.proofs.Common.{rules}
use lib.Pointwise.{bytes_decides}
use Rattle.node_view.proofs.shared.are_same.Goals as goal

pub returns : goal.returns
returns c = λ same. (bytes_decides c.args.nodes.now c.args.others.now).0 (search rules)
