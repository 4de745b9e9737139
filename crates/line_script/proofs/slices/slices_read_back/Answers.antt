use Rattle.line_script.proofs.SlicesPrinted.{slices_read_back}
use Rattle.line_script.proofs.slices.slices_read_back.Goals as goal

pub returns : goal.returns
returns c = slices_read_back
