use Rattle.std.proofs.Common.{rules}
use Rattle.std.specs.Prelude.{map}
use Rattle.line_request.specs.Lines.{five}
use Rattle.line_request.proofs.SayingLaws.{nothing-said}
use Rattle.line_request.proofs.events.say.Goals as goal

pub returns-in-None : goal.returns-in-None
returns-in-None c = nothing-said (five (map (λ field. field.now) c.args.fields.now)) c.in-Some.node.now c.in-Some.from.now c.in-Some.slot.now c.in-Some.slices.now c.in-Some.statement.now c.in-Some-name_of.node _
    (search rules) (search rules) c.in_ok-bytes.ensures c.in-None.is
