use Rattle.std.proofs.Common.{length}
use Rattle.live_host.proofs.all.+slot_of_answers.Given as goal

abbrev pub decreases-slot_of_answers : goal.decreases-slot_of_answers
decreases-slot_of_answers l = length l.answers.now
