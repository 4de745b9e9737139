use Rattle.std.proofs.Common.{length}
use Rattle.live_host.proofs.all.+closing_of_answers.Given as goal

abbrev pub decreases-closing_of_answers : goal.decreases-closing_of_answers
decreases-closing_of_answers l = length l.answers.now
