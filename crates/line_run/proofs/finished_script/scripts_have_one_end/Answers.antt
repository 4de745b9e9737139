use Rattle.line_run.proofs.DeterminedEnds.{scripts_have_one_end}
use Rattle.line_run.proofs.finished_script.scripts_have_one_end.Goals as goal

pub returns : goal.returns
returns c = scripts_have_one_end
