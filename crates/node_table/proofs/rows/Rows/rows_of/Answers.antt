use Rattle.scp_types.specs.declared.kind.Kind.{Kind}
use Rattle.scp_types.specs.declared.kind.Kind.TheVariants.{Nomination}
use Rattle.node_table.proofs.rows.Rows.rows_of.Goals as goal

pub returns-clause-nomination : goal.returns-clause-nomination
returns-clause-nomination g c = c.row_where.ensures c.args.sender.now Nomination c.places-places.ensures.nomination

pub returns-clause-ballot : goal.returns-clause-ballot
returns-clause-ballot g c = c.row_where-2.ensures c.args.sender.now Kind.Ballot c.places-places.ensures.ballot
