use Rattle.std.proofs.Common.{length}
use Rattle.host_compare.proofs.rosters.+is_within.Given as goal

abbrev pub decreases-is_within : goal.decreases-is_within
decreases-is_within l = length l.names.now
