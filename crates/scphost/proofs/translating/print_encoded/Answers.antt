use Rattle.std.proofs.Common.{rules, false, refl}
use Rattle.std.specs.Prelude.{string_bytes}
use Rattle.line_script.specs.Script.{Bytes}
use Rattle.line_request.specs.Translations.{DecodesBack, IsEncoded}
use Rattle.scphost.proofs.TranslatingLaws.{has-encoded, none-encoded}
use Rattle.scphost.proofs.translating.print_encoded.Goals as goal

pub returns-in-Ok-Some : goal.returns-in-Ok-Some
returns-in-Ok-Some g c =
    let f = c.bytes_of-from.result.now in
    let i = c.bytes_of-slot.result.now in
    let q = c.bytes_of-slices.result.now in
    let s = c.bytes_of-statement.result.now in
    let encoded : IsEncoded f i q s (string_bytes c.in-Ok-Some.text) = search rules in
    let back : DecodesBack f i q s (string_bytes c.in-Ok-Some.text) = search rules in
    has-encoded f i q s _ _ _ _ (record { differs = false; text = c.in-Ok-Some.text }) c.bytes_of-from.ensures c.bytes_of-slot.ensures c.bytes_of-slices.ensures c.bytes_of-statement.ensures refl encoded back c.print_answer.ensures

pub returns-in-Ok-None : goal.returns-in-Ok-None
returns-in-Ok-None g c =
    let f = c.bytes_of-from.result.now in
    let i = c.bytes_of-slot.result.now in
    let q = c.bytes_of-slices.result.now in
    let s = c.bytes_of-statement.result.now in
    let none : (line : Bytes) → ¬ IsEncoded f i q s line = search rules in
    none-encoded f i q s _ _ _ c.bytes_of-from.ensures c.bytes_of-slot.ensures c.bytes_of-slices.ensures c.bytes_of-statement.ensures none c.print_wrong_word.ensures
