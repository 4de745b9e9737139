use Rattle.std.proofs.Common.{map, take}
use Rattle.live_feed.specs.Served.{reply_of}
use Rattle.scphost.specs.Remembering.{AllTellOfNoWant}
use Rattle.scphost.proofs.remembering.told_of.Given as goal

abbrev pub invariant-loop-told : goal.invariant-loop-told
invariant-loop-told l = AllTellOfNoWant (take l.told (map reply_of l.answers.items))
