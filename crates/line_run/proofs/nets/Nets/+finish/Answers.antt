use Rattle.line_run.proofs.JoiningLaws.{none-joins, first-joins}
use Rattle.line_run.proofs.nets.Nets.+finish.Goals as goal

pub returns-in_default : goal.returns-in_default
returns-in_default g t c = none-joins g.N.JoinsNetworks.joins _ _ c.in_default.ensures.none

pub returns : goal.returns
returns g t c = first-joins g.N.JoinsNetworks.joins c.finish.result _ _ _ _ _ _ _ c.in-Some.ensures.some c.in_ok-join_complete.ensures c.finish.ensures
