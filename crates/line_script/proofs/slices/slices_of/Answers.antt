use Rattle.std.proofs.Common.{rules}
use Rattle.line_script.proofs.SlicesSpelled.{nothing_read, more_read, slices_answer}
use Rattle.line_script.proofs.slices.slices_of.Goals as goal

pub returns-in_default : goal.returns-in_default
returns-in_default c = nothing_read c.args.word.now (search rules)

pub returns-then-not-is_empty : goal.returns-then-not-is_empty
returns-then-not-is_empty c = more_read c.args.word.now c.in-Some.set c.in-Some.rest.now (search rules) (search rules)

pub returns : goal.returns
returns c = slices_answer c.args.word.now c.in-Some.set c.in-Some.rest.now _ (search rules) (search rules) c.new.ensures.exactly c.new.ensures.some
