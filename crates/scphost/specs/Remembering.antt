-- Answers that do not say that it was out of memory.
use Rattle.std.specs.Prelude.{List}
use Rattle.std.specs.List.{All}
use Rattle.live_feed.specs.Served.{LineReply}
use Rattle.live_host.specs.Blocks.{TellsOfNoWant}

-- none of these answers says that it was out of memory
abbrev pub AllTellOfNoWant : List LineReply → Type 0
AllTellOfNoWant answers = All (λ a. TellsOfNoWant a.text) answers
