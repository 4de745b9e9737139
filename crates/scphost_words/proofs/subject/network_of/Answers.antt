use Rattle.std.proofs.Common.{◌∙◌, ap}
use Rattle.std.specs.Prelude.{◌^◌}
use Rattle.line_script.specs.Words.{word_number}
use Rattle.scphost_words.proofs.subject.network_of.Goals as goal

pub returns : goal.returns
returns c = c.counter_of.ensures ∙ ap (word_number (2 ^ 32)) c.as_bytes.ensures.value
