use Rattle.std.proofs.Common.{length}
use Rattle.scphost_words.proofs.help.+ask_help.Given as goal

abbrev pub decreases-ask_help : goal.decreases-ask_help
decreases-ask_help g l = length l.words.now
