use Rattle.std.proofs.Common.{sym}
use Rattle.std.proofs.lemmas.Result.{IfOk-weaker}
use Rattle.scphost_words.proofs.CallLaws.{call_only, call_sound, first_and_rest, no_call}
use Rattle.scphost_words.proofs.call.call_of.Goals as goal

pub returns-in-Ok-clause-sound : goal.returns-in-Ok-clause-sound
returns-in-Ok-clause-sound g c = IfOk-weaker c.call_with.result _ _
    (λ call made. call_sound _ _ _ _ _ _ call c.in-Ok.ensures.found (sym c.in-Some.ensures)
    (first_and_rest g.S.AsStr.text c.args.words.now c.name-item.result _ c.name-item.is c.as_str.ensures c.in-len1-up.len_at_least) made)
    c.call_with.ensures.sound

pub returns-in-Ok-clause-complete : goal.returns-in-Ok-clause-complete
returns-in-Ok-clause-complete g c = λ call fits.
    c.call_with.ensures.complete call (call_only _ _ _ _ _ _ call c.in-Ok.ensures.all (sym c.in-Some.ensures)
    (first_and_rest g.S.AsStr.text c.args.words.now c.name-item.result _ c.name-item.is c.as_str.ensures c.in-len1-up.len_at_least) fits)

pub returns-in-Err-clause-complete : goal.returns-in-Err-clause-complete
returns-in-Err-clause-complete g c = λ call fits.
    absurd (no_call _ _ _ _ call c.in-Err.ensures.all (sym c.in-Some.ensures)
    (first_and_rest g.S.AsStr.text c.args.words.now c.name-item.result _ c.name-item.is c.as_str.ensures c.in-len1-up.len_at_least) fits)
