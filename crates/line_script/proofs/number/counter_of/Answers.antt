use Rattle.std.proofs.Common.{◌^◌}
use Rattle.line_script.proofs.NumberLaws.{number_read}
use Rattle.line_script.proofs.number.counter_of.Goals as goal

pub returns : goal.returns
returns c = number_read c.short_decimal_of.result c.args.word.now (2 ^ 32) c.short_decimal_of.ensures.exactly c.short_decimal_of.ensures.some
