use Rattle.std.proofs.Common.{◌≡◌, ◌+◌, length, map}
use Rattle.live_feed.specs.Reading.{given_of}
use Rattle.live_feed.specs.Served.{AreAnswered, reply_of}
use Rattle.live_feed.proofs.answering.serve_in_turn.Given as goal

abbrev pub invariant-loop-line : goal.invariant-loop-line
invariant-loop-line g l =
    AreAnswered g.S.LineServer.serves l.fn.server (l.fn.count + 1) (map given_of l.lines) (map reply_of l.answers.items) l.server
    × (length l.answers.items ≡ l.line-index) × (l.number ≡ l.fn.count + l.line-index)
