use Rattle.std.proofs.Common.{length}
use Rattle.scphost_words.proofs.options.+options_before.Given as goal

abbrev pub decreases-options_before : goal.decreases-options_before
decreases-options_before g l = length l.words.now
