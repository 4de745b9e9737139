use Rattle.std.proofs.Common.{vec_len}
use Rattle.scp_slices.proofs.Fixed.{IsLeft}
use Rattle.scp_slices.proofs.search.in_quorum.Given as goal

abbrev pub invariant-loop-left : goal.invariant-loop-left
invariant-loop-left g l = IsLeft g.S.Family.SliceFamily.sat (g.S.SlicesOf.slices_at l.slices_of) l.supporters l.left.items

abbrev pub decreases-loop-left : goal.decreases-loop-left
decreases-loop-left g l = vec_len l.left
