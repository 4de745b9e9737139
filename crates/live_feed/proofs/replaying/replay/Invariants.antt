use Rattle.live_feed.proofs.ReplayLaws.{Replays}
use Rattle.live_feed.proofs.replaying.replay.Given as goal

abbrev pub invariant-loop : goal.invariant-loop
invariant-loop g l =
    Replays g.S.LineServer.serves 262144 l.fn.from l.fn.server (g.R.Read.remaining l.fn.journal) (g.R.Read.remaining l.journal)
    (g.W.Write.contents l.fn.out) (g.W.Write.contents l.out) l.end l.server
