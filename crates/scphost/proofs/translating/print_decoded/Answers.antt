use Rattle.std.proofs.Common.{rules, ◌≡◌, Bool, false, subst, sym}
use Rattle.std.specs.Prelude.{string_bytes}
use Rattle.line_script.specs.Script.{Bytes}
use Rattle.line_request.specs.Translations.{EncodesBack, IsDecoded}
use Rattle.line_run.specs.declared.answer.Answer.{Answer}
use Rattle.scphost.proofs.TranslatingLaws.{has-decoded, none-decoded}
use Rattle.scphost.proofs.translating.print_decoded.Goals as goal

pub returns-in-Ok-Some : goal.returns-in-Ok-Some
returns-in-Ok-Some g c =
    let word = c.bytes_of.result.now in
    let told = c.in-Ok-Some.decoded in
    let decoded : IsDecoded word told.is_fault (string_bytes told.line) = search rules in
    let back : told.is_fault ≡ false → EncodesBack word (string_bytes told.line) = search rules in
    let is = sym c.answer_of-answer.ensures in
    has-decoded word _ _ _ _ c.answer_of-answer.result c.bytes_of.ensures
    (subst (λ (a : Answer). IsDecoded word a.differs (string_bytes a.text)) is decoded)
    (subst (λ (a : Answer). a.differs ≡ false → EncodesBack word (string_bytes a.text)) is back) c.print_answer.ensures

pub returns-in-Ok-None : goal.returns-in-Ok-None
returns-in-Ok-None g c =
    let word = c.bytes_of.result.now in
    let none : (d : Bool × Bytes) → ¬ IsDecoded word d.0 d.1 = search rules in
    none-decoded word _ _ _ c.bytes_of.ensures none c.print_wrong_word.ensures
