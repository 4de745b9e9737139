use Rattle.std.specs.Prelude.{string_bytes}
use Rattle.line_report.proofs.TextLaws.{next-line}
use Rattle.line_report.proofs.text.push_members.Goals as goal

pub loop-place-preserved : goal.loop-place-preserved
loop-place-preserved c =
    next-line c.args.members.now c.loop-place.place (string_bytes c.loop-place.text) _ _ c.loop-place.invariant c.in_ok-push_at.ensures
