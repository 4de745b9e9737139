use Rattle.std.proofs.Common.{length, map}
use Rattle.live_feed.specs.Served.{reply_of}
use Rattle.live_feed.proofs.ReplayLaws.{Again}
use Rattle.live_feed.proofs.replaying.replay_lines.Given as goal

abbrev pub invariant-loop-line : goal.invariant-loop-line
invariant-loop-line g l =
    Again g.S.LineServer.serves l.fn.place.from l.fn.server l.server l.fn.place.end l.fn.lines (g.W.Write.contents l.fn.out) (length l.numbered)
    l.line-index (map reply_of l.answers.items) l.end (g.W.Write.contents l.out)
