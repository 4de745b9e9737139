use Rattle.std.proofs.Common.{sym, subst, refl}
use Rattle.live_feed.specs.Reading.{AreNextLines}
use Rattle.live_feed.proofs.TogetherLaws.{next_lines_more}
use Rattle.live_feed.proofs.gathering.gather.Goals as goal

pub loop-preserved : goal.loop-preserved
loop-preserved g c =
    let next = rw c.in-Some.is at c.in_ok-more.ensures.next in
    subst (AreNextLines 262144 (g.R.Read.remaining c.args.input.now) (g.R.Read.remaining c.next_line.new.reader)) (sym c.in_ok-keep-in-Some.ensures.kept)
    (next_lines_more 262144 _ _ _ c.loop.lines.items c.next_line.new.line c.in-Some.more c.loop.invariant next)

pub returns-then-not-more : goal.returns-then-not-more
returns-then-not-more g c =
    let next = rw c.in-Some.is at c.in_ok-more.ensures.next in (
      g.R.Read.remaining c.next_line.new.reader,
      subst (AreNextLines 262144 (g.R.Read.remaining c.args.input.now) (g.R.Read.remaining c.next_line.new.reader)) (sym c.in_ok-keep-in-Some.ensures.kept)
          (next_lines_more 262144 _ _ _ c.loop.lines.items c.next_line.new.line c.in-Some.more c.loop.invariant next),
      refl,
    )
