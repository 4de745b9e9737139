use Rattle.std.proofs.Common.{rules}
use Rattle.std.proofs.lemmas.List.{take_all}
use Rattle.live_feed.proofs.gathering.numbered.Goals as goal

pub returns-then-lines-left-clause-first : goal.returns-then-lines-left-clause-first
returns-then-lines-left-clause-first c = search (rules, take_all)
