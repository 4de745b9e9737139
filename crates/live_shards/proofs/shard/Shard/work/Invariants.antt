use Rattle.std.proofs.Common.{◌+◌, map}
use Rattle.live_feed.specs.Reading.{given_of}
use Rattle.live_feed.specs.Served.{reply_of}
use Rattle.live_shards.proofs.Loops.{OwnSoFar}
use Rattle.live_shards.proofs.shard.Shard.work.Given as goal

abbrev pub invariant-loop-at : goal.invariant-loop-at
invariant-loop-at l =
    OwnSoFar l.place l.fn.self.host (l.count + 1) (map given_of l.lines) l.places l.at l.self.host (map reply_of l.self.answers.items)
