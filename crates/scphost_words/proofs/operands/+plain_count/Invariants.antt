use Rattle.std.proofs.Common.{length}
use Rattle.scphost_words.proofs.operands.+plain_count.Given as goal

abbrev pub decreases-plain_count : goal.decreases-plain_count
decreases-plain_count g l = length l.words.now
