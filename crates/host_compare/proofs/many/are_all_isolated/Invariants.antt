use Rattle.std.proofs.Common.{take}
use Rattle.host_compare.specs.Questions.{AreAllIsolated}
use Rattle.host_compare.proofs.many.are_all_isolated.Given as goal

abbrev pub invariant-loop-subject : goal.invariant-loop-subject
invariant-loop-subject g l = AreAllIsolated l.one l.other (take l.subject-index l.subjects)
