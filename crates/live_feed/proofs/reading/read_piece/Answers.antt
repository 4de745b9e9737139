use Rattle.std.proofs.Common.{◌+◌, arith, rules, length, subst, take_all}
use Rattle.std.specs.Io.KnownBytes.{Consumes}
use Rattle.std.specs.Io.BufRead.{FillKeeps}
use Rattle.std.proofs.BufReadLemmas.{Consumes_shown}
use Rattle.live_feed.proofs.LineLaws.{feed_found, feed_missing, grows}
use Rattle.live_feed.proofs.PieceLaws.{nothing_read}
use Rattle.live_feed.proofs.reading.read_piece.Goals as goal

pub returns-in-Err-clause-next : goal.returns-in-Err-clause-next
returns-in-Err-clause-next g c = nothing_read _ _ _ _ _ c.fill_buf.follows.holds-at-none.0 c.after_error.ensures.again

pub returns-in_ok-add_piece-in-Some-clause-next : goal.returns-in_ok-add_piece-in-Some-clause-next
returns-in_ok-add_piece-in-Some-clause-next g c =
    let shown = c.in-Ok.available.now in
    let end = c.in-Some.end in
    let rested = c.fill_buf.follows.lender-at-none in
    let filled = subst (FillKeeps _ (g.R.Read.remaining rested) (g.R.BufRead.consumable_len rested)) c.in-Ok.is c.fill_buf.follows.holds-at-none in
    let feed = feed_found shown end (search rules) in
    let moved = Consumes_shown _ _ _ _ shown (end + 1) (omega (arith, feed.within)) c.in-Ok.ensures.front c.in-Ok.ensures.end filled.0 filled.1 c.consume.ensures.bytes in
    (_, feed.plain, subst (Consumes _ _) feed.fed moved.0, grows _ _ _ _ (search rules))

pub returns-in_ok-add_piece-in-None-clause-next : goal.returns-in_ok-add_piece-in-None-clause-next
returns-in_ok-add_piece-in-None-clause-next g c =
    let shown = c.in-Ok.available.now in
    let rested = c.fill_buf.follows.lender-at-none in
    let filled = subst (FillKeeps _ (g.R.Read.remaining rested) (g.R.BufRead.consumable_len rested)) c.in-Ok.is c.fill_buf.follows.holds-at-none in
    let moved = Consumes_shown _ _ _ _ shown (length shown) (omega arith) c.in-Ok.ensures.front c.in-Ok.ensures.end filled.0 filled.1 c.consume-in-None.ensures.bytes in
    (_, feed_missing shown (search rules), subst (Consumes _ _) (take_all (length shown) shown (omega arith)) moved.0, grows _ _ _ _ (search rules))
