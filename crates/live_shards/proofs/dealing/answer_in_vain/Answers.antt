use Rattle.std.proofs.Common.{map}
use Rattle.std.proofs.lemmas.Result.{IfOk-weaker}
use Rattle.live_feed.specs.Served.{reply_of}
use Rattle.live_shards.proofs.DealingLaws.{answered_in_vain}
use Rattle.live_shards.proofs.dealing.answer_in_vain.Goals as goal

pub returns-in_ok-asked-in-Ok-Some : goal.returns-in_ok-asked-in-Ok-Some
returns-in_ok-asked-in-Ok-Some c =
    let are = rw c.in-Ok-Some.field-0-is at c.in-Ok-Some.ensures.fields in
    let asks = rw c.as_slice.ensures.value at c.in_ok-asked-in-Ok-Some.ensures in
    let net = rw c.in-Some.is at c.requires in
    let fields = map (λ field. field.now) c.in-Ok-Some.fields.items in
    rw c.in-Some.is (IfOk-weaker c.serve.result _ _ (λ answer bad.
    answered_in_vain c.args.number c.in-Some.line.now fields c.in_ok-asked-in-Ok-Some.field-0 (reply_of answer) net are asks _ _ bad) c.serve.ensures)
