use Rattle.std.proofs.Common.{rules}
use Rattle.node_table.proofs.Tabled.{indexed-empty}
use Rattle.node_table.proofs.table.Table.new.Goals as goal

pub invariant_of-result : goal.invariant_of-result
invariant_of-result c = rw (c.new.ensures.items, c.new-2.ensures) (indexed-empty, search rules)
