use Rattle.std.proofs.Common.{◌≡◌, ◌∙◌, ◌<◌, ◌≤◌, ◌-◌, true, false, sym, ap, arith, length}
use Rattle.std.specs.Prelude.{Err}
use Rattle.std.specs.Io.BufRead.{ends_with_byte, strip_last}
use Rattle.std.proofs.lemmas.Result.{err_from_is_err_and}
use Rattle.line_script.proofs.StreamLaws.{starts, next_line, not_read, stopped_at, ended, ended_at, is_zero, not_zero}
use Rattle.line_script.proofs.stream.run_limited.Goals as goal

pub loop-bytes-init : goal.loop-bytes-init
loop-bytes-init g c = starts _ _ _ _ _ _

pub returns-in_err-bytes : goal.returns-in_err-bytes
returns-in_err-bytes g c =
    let ran = not_read _ _ _ _ _ _ _ _ _ _ _ c.in_err-bytes.field-0.0 (λ e. c.in_err-bytes.ensures.too_long (ap (λ x. Err x) e)) c.loop-bytes.invariant in
    let out = err_from_is_err_and c.from_residual.result c.from_residual.ensures.1 in
    rw (out.1, out.2) ran

pub returns-then-is_empty : goal.returns-then-is_empty
returns-then-is_empty g c =
    let none : length c.in_ok-bytes.bytes.items ≡ 0 = omega (arith, c.in_ok-bytes.bytes.ok.0, is_zero _ _ c.if-is_empty.true c.is_empty.ensures) in
    ended _ _ _ _ _ _ _ _ _ _ _ _ _ c.loop-bytes.invariant c.in_ok-bytes.ensures.next none

pub returns-in_err-answer_line : goal.returns-in_err-answer_line
returns-in_err-answer_line g c =
    let items = c.in_ok-bytes.bytes.items in
    let some : 0 < length items = omega (arith, c.in_ok-bytes.bytes.ok.0, not_zero _ _ c.if-is_empty.false c.is_empty.ensures) in
    let within : length items ≤ c.loop-bytes.room = omega (arith, c.in_ok-bytes.bytes.ok.0, c.in_ok-bytes.ensures.fits) in
    let line = c.without_feed-is_ended.ensures.line ∙ ap (strip_last 10) c.deref.ensures.value in
    let ran = stopped_at _ _ _ _ _ _ _ _ _ _ _ _ _ _ items _ _ c.loop-bytes.invariant c.in_ok-bytes.ensures.next within line some c.in_err-answer_line.ensures in
    let out = err_from_is_err_and c.from_residual-in_err-answer_line.result c.from_residual-in_err-answer_line.ensures.1 in
    rw (out.1, out.2) ran

pub returns-then-not-is_ended : goal.returns-then-not-is_ended
returns-then-not-is_ended g c =
    let items = c.in_ok-bytes.bytes.items in
    let some : 0 < length items = omega (arith, c.in_ok-bytes.bytes.ok.0, not_zero _ _ c.if-is_empty.false c.is_empty.ensures) in
    let within : length items ≤ c.loop-bytes.room = omega (arith, c.in_ok-bytes.bytes.ok.0, c.in_ok-bytes.ensures.fits) in
    let line = c.without_feed-is_ended.ensures.line ∙ ap (strip_last 10) c.deref.ensures.value in
    let ends : ends_with_byte 10 items ≡ false = sym (c.without_feed-is_ended.ensures.ended ∙ ap (ends_with_byte 10) c.deref.ensures.value) ∙ c.if-not-is_ended.true in
    let ran = c.in_ok-answer_line.ensures in
    ended_at _ _ _ _ _ _ _ _ _ _ _ _ _ _ items _ ran.0 c.loop-bytes.invariant c.in_ok-bytes.ensures.next within line some ends ran.1 ran.2

pub loop-bytes-preserved : goal.loop-bytes-preserved
loop-bytes-preserved g c =
    let items = c.in_ok-bytes.bytes.items in
    let within : length items ≤ c.loop-bytes.room = omega (arith, c.in_ok-bytes.bytes.ok.0, c.in_ok-bytes.ensures.fits) in
    let line = c.without_feed-is_ended.ensures.line ∙ ap (strip_last 10) c.deref.ensures.value in
    let left : c.loop-bytes.room - c.len-room.result ≡ c.loop-bytes.room - length items = omega (arith, c.len-room.ensures, c.in_ok-bytes.bytes.ok.0) in
    let ends : ends_with_byte 10 items ≡ true = sym (c.without_feed-is_ended.ensures.ended ∙ ap (ends_with_byte 10) c.deref.ensures.value) ∙ c.if-not-is_ended.false in
    let ran = c.in_ok-answer_line.ensures in
    next_line _ _ _ _ _ _ _ _ _ _ _ _ _ _ _ items _ ran.0 c.loop-bytes.invariant c.in_ok-bytes.ensures.next within line left ends ran.1 ran.2
