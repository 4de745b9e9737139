use Rattle.line_script.proofs.SlicesSpelled.{slices_spelled_once}
use Rattle.line_script.proofs.slices.slices_spelled_once.Goals as goal

pub returns : goal.returns
returns c = slices_spelled_once
