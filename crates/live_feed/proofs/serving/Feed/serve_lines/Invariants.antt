use Rattle.std.proofs.Common.{length, map}
use Rattle.std.specs.Io.KnownBytes.{Keeps}
use Rattle.live_feed.specs.Served.{reply_of}
use Rattle.live_feed.proofs.TogetherLaws.{Rest}
use Rattle.live_feed.proofs.serving.Feed.serve_lines.Given as goal

abbrev pub invariant-loop-line : goal.invariant-loop-line
invariant-loop-line g l =
    Rest g.S.LineServer.serves l.fn.self.server l.fn.self.count l.fn.lines l.fn.self.waiting.items (g.D.Desk.acts l.fn.desk) (length l.numbered) l.self.server
    l.line-index (map reply_of l.answers.items) l.self.count l.self.waiting.items (g.D.Desk.acts l.desk)
    × Keeps (g.D.Desk.told l.fn.desk) (g.D.Desk.told l.desk)
