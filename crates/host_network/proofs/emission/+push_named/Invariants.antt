use Rattle.std.proofs.Common.{length}
use Rattle.host_network.proofs.emission.+push_named.Given as goal

abbrev pub decreases-push_named : goal.decreases-push_named
decreases-push_named l = length l.outs.now
