use Rattle.std.proofs.Common.{◌≡◌, take}
use Rattle.host_config.proofs.config.copies.Given as goal

abbrev pub invariant-loop-hosted : goal.invariant-loop-hosted
invariant-loop-hosted l = l.copies.items ≡ take l.hosted-index l.nodes
