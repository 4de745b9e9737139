use Rattle.std.proofs.Common.{◌+◌}
use Rattle.live_feed.proofs.ServingLaws.{Going}
use Rattle.live_feed.proofs.serving.Feed.serve.Given as goal

abbrev pub invariant-loop : goal.invariant-loop
invariant-loop g l =
    Going g.S.LineServer.serves 262144 l.fn.self.server (l.fn.self.count + 1) (g.R.Read.remaining l.fn.input) (g.R.Read.remaining l.input)
    (g.D.Desk.acts l.fn.desk) (g.D.Desk.acts l.desk) (g.D.Desk.told l.fn.desk) (g.D.Desk.told l.desk)
    l.self.waiting.items l.self.server l.self.count
