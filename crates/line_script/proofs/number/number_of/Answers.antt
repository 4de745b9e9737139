use Rattle.std.proofs.Common.{◌^◌}
use Rattle.line_script.proofs.NumberLaws.{number_read}
use Rattle.line_script.proofs.number.number_of.Goals as goal

pub returns : goal.returns
returns c = number_read c.decimal_of.result c.args.word.now (2 ^ 64) c.decimal_of.ensures.exactly c.decimal_of.ensures.some
