use Rattle.std.proofs.Common.{◌∙◌, ◌++◌, ap, List, ℕ}
use Rattle.std.specs.Prelude.{string_bytes}
use Rattle.line_script.proofs.WordLaws.{two_digits, all_digits}
use Rattle.line_script.proofs.hexadecimal.push_hex.Goals as goal

pub loop-byte-preserved : goal.loop-byte-preserved
loop-byte-preserved c =
    let high = c.in_ok-push.ensures.bytes ∙ ap (λ (ch : List ℕ). string_bytes c.loop-byte.text ++ ch) (c.in_ok-push.ensures.ascii c.digit.ensures.ascii) in
    let low = c.in_ok-push-2.ensures.bytes ∙ ap (λ (ch : List ℕ). string_bytes c.push.new.self ++ ch) (c.in_ok-push-2.ensures.ascii c.digit-in-loop-byte.ensures.ascii) in
    two_digits _ _ _ _ _ _ _ _ c.loop-byte-test.true c.digit.ensures.digit c.digit-in-loop-byte.ensures.digit high low c.loop-byte.invariant

pub returns : goal.returns
returns c = all_digits _ _ _ _ c.loop-byte-test.false c.loop-byte.invariant
