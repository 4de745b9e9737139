use Rattle.std.proofs.Common.{length}
use Rattle.host_compare.proofs.crowd_cast.+slices_among.Given as goal

abbrev pub decreases-slices_among : goal.decreases-slices_among
decreases-slices_among l = length l.nodes.now
