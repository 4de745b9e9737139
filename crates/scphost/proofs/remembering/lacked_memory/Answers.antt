use Rattle.std.proofs.Common.{sym, subst}
use Rattle.live_feed.specs.Served.{reply_of}
use Rattle.live_host.specs.Blocks.{TellsOfNoWant}
use Rattle.live_host.specs.Keeping.{none_told}
use Rattle.scphost.proofs.RememberingLaws.{none_found}
use Rattle.scphost.proofs.remembering.lacked_memory.Goals as goal

pub returns-in-Some : goal.returns-in-Some
returns-in-Some c is =
    subst (λ o. TellsOfNoWant (reply_of o).text) (sym c.in-Some.is)
    (subst TellsOfNoWant c.as_str.ensures.value
    (none_found c.contains.result c.as_str.result.now c.contains.ensures.cases is))

pub returns-in-None : goal.returns-in-None
returns-in-None c is = subst (λ o. TellsOfNoWant (reply_of o).text) (sym c.in-None.is) none_told
