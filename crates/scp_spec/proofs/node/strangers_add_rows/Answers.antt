use Rattle.scp_spec.proofs.Nodes.Strangers.{held_is_closed, leaders_are_near, outsiders_add_rows, outsiders_are_quiet, strangers_add_rows}
use Rattle.scp_spec.proofs.node.strangers_add_rows.Goals as goal

pub returns-clause-leaders : goal.returns-clause-leaders
returns-clause-leaders c = leaders_are_near

pub returns-clause-quiet : goal.returns-clause-quiet
returns-clause-quiet c = outsiders_are_quiet

pub returns-clause-outsiders : goal.returns-clause-outsiders
returns-clause-outsiders c = outsiders_add_rows

pub returns-clause-strangers : goal.returns-clause-strangers
returns-clause-strangers c = strangers_add_rows

pub returns-clause-held : goal.returns-clause-held
returns-clause-held c = held_is_closed
