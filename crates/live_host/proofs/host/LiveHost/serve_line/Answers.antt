use Rattle.std.proofs.Common.{map, refl}
use Rattle.live_host.proofs.Each.{is-not-skipped, line-served}
use Rattle.live_host.proofs.host.LiveHost.serve_line.Goals as goal

pub returns-in-Ok-Some : goal.returns-in-Ok-Some
returns-in-Ok-Some c =
    let found = rw c.in-Ok-Some.field-0-is at c.in-Ok-Some.ensures in
    let answered = rw c.in-Ok-Some.field-0-is at c.answer_fields.ensures in
    line-served _ _ _ _ (map (λ field. field.now) c.in-Ok-Some.fields.items) _ _ (λ skipped. is-not-skipped _ _ refl (found.skipped.1 skipped)) found.fields answered
