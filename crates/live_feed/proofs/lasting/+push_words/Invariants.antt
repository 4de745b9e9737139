use Rattle.std.proofs.Common.{length}
use Rattle.live_feed.proofs.lasting.+push_words.Given as goal

-- proposed from what the function passes where it calls itself
abbrev pub decreases-push_words : goal.decreases-push_words
decreases-push_words l = length l.by.now
