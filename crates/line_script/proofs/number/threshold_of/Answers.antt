use Rattle.std.proofs.Common.{◌^◌}
use Rattle.line_script.proofs.NumberLaws.{number_read}
use Rattle.line_script.proofs.number.threshold_of.Goals as goal

pub returns : goal.returns
returns c = number_read c.byte_of.result c.args.word.now (2 ^ 8) c.byte_of.ensures.exactly c.byte_of.ensures.some
