use Rattle.std.proofs.Common.{◌<◌, arith, length}
use Rattle.line_script.proofs.InputLemmas.{whole_below_limit}
use Rattle.line_script.proofs.input.read_whole.Goals as goal

pub returns-in-Ok-2-clause-whole : goal.returns-in-Ok-2-clause-whole
returns-in-Ok-2-clause-whole g c =
    let short : length c.read_to_end.new.buf.items < c.take-limited.result.limit =
    omega (arith, c.read_to_end.new.buf.ok.0, c.take-limited.ensures.limit) in
    rw c.take-limited.ensures.inner at
    (whole_below_limit c.take-limited.result.limit
    (g.R.Read.remaining c.take-limited.result.inner.now) c.new-bytes.result.items
    c.read_to_end.new.buf.items c.new-bytes.ensures.items c.in-Ok-2.ensures.bytes short)
