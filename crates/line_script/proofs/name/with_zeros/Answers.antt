use Rattle.line_script.proofs.NameLaws.{zeros_behind}
use Rattle.line_script.proofs.name.with_zeros.Goals as goal

pub returns : goal.returns
returns c = zeros_behind _ _ c.copy_from_slice.ensures.after
