use Rattle.std.proofs.Common.{◌∙◌, ap}
use Rattle.std.specs.Prelude.{◌^◌}
use Rattle.line_script.specs.Words.{word_number}
use Rattle.scphost_words.proofs.subject.number_in.Goals as goal

pub returns : goal.returns
returns c = c.number_of.ensures ∙ ap (word_number (2 ^ 64)) c.as_bytes.ensures.value
