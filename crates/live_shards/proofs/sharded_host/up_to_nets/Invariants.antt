use Rattle.std.proofs.Common.{◌≤◌}
use Rattle.live_shards.proofs.sharded_host.up_to_nets.Given as goal

abbrev pub invariant-loop-place : goal.invariant-loop-place
invariant-loop-place l = l.last ≤ l.place
