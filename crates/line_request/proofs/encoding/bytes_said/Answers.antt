use Rattle.std.proofs.Common.{ℕ, subst}
use Rattle.std.specs.Prelude.{option_and_then}
use Rattle.line_request.specs.Lines.{AreSaid, IsRead}
use Rattle.line_request.specs.declared.request.Request.{Request}
use Rattle.line_request.specs.Saying.{delivered_by}
use Rattle.line_request.proofs.SayLaws.{say_read}
use Rattle.line_request.proofs.encoding.bytes_said.Goals as goal

pub returns-in-None : goal.returns-in-None
returns-in-None c =
    subst (λ a. IsRead (λ bytes. AreSaid bytes c.args.from.now c.args.slot.now c.args.slices.now c.args.statement.now) (option_and_then (λ (r : ℕ × Request). delivered_by r.1) a)) c.in-None.is
    (say_read c.args.from.now c.args.slot.now c.args.slices.now c.args.statement.now _ c.in_ok-request.ensures)
