use Rattle.std.proofs.Common.{◌∙◌, arith}
use Rattle.line_script.proofs.NameLaws.{name_put}
use Rattle.line_script.proofs.name.bytes_in.Goals as goal

pub returns : goal.returns
returns c =
    let word = c.words-first.result in
    name_put c.args.name.now word.0 word.1 word.2 word.3 _ _ _ _ c.words-first.ensures.value (omega arith) (omega arith) (omega arith)
    (c.copy_from_slice.ensures.after ∙ c.to_be_bytes.ensures) (c.copy_from_slice-2.ensures.after ∙ c.to_be_bytes-2.ensures)
    (c.copy_from_slice-3.ensures.after ∙ c.to_be_bytes-3.ensures) (c.copy_from_slice-4.ensures.after ∙ c.to_be_bytes-4.ensures)
