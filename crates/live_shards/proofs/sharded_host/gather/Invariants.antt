use Rattle.std.proofs.Common.{◌≡◌, map}
use Rattle.live_feed.specs.Served.{reply_of}
use Rattle.live_shards.specs.Sharded.{hosts_of, waiting_answers}
use Rattle.live_shards.proofs.Loops.{GatheredSoFar}
use Rattle.live_shards.proofs.sharded_host.gather.Given as goal

abbrev pub invariant-loop-place : goal.invariant-loop-place
invariant-loop-place l = GatheredSoFar l.places (waiting_answers l.fn.shards) l.place-index (waiting_answers l.shards) (map reply_of l.answers.items) × (hosts_of l.shards ≡ hosts_of l.fn.shards)
