use Rattle.line_run.proofs.DeterminedRuns.{ends_do_one_thing, lines_do_one_thing, runs_do_one_thing}
use Rattle.line_run.proofs.unprinted_run.lines_do_one_thing.Goals as goal

pub returns-clause-lines : goal.returns-clause-lines
returns-clause-lines c = lines_do_one_thing

pub returns-clause-runs : goal.returns-clause-runs
returns-clause-runs c = runs_do_one_thing

pub returns-clause-ends : goal.returns-clause-ends
returns-clause-ends c = ends_do_one_thing
