-- Many questions about the same two worlds, each of a subject, and their verdicts in order.
use Rattle.std.specs.Prelude.{List}
use Rattle.std.specs.List.{All, AllZip}
use Rattle.scp_types.specs.declared.subject.Subject.{Subject}
use Rattle.scp_spec.specs.Hosts.{History}
use Rattle.host_journal.specs.Logs.{Log}
use Rattle.host_world.specs.Worlds.{log_at}
use Rattle.host_compare.specs.Meanings.{AreIsolated, IsVerdictBetween, IsVerdictOn}
use Rattle.host_compare.specs.declared.verdict.Verdict.{Verdict}

-- There is one verdict a subject, and that at the subject's place is right of what the two worlds have of its network.
abbrev pub AreVerdictsOn : List Log → List Log → List Subject → List Verdict → Type 0
AreVerdictsOn one other subjects verdicts =
    AllZip (λ s r. IsVerdictOn (log_at one s.net) (log_at other s.net) s.slot s.node r) subjects verdicts

-- There is one verdict a subject, and it is right of its network in two histories.
abbrev pub AreVerdictsBetween : History → History → List Subject → List Verdict → Type 0
AreVerdictsBetween h k subjects verdicts = AllZip (λ s r. IsVerdictBetween h k s.net s.slot s.node r) subjects verdicts

-- Each subject is isolated: if both worlds have its cast and its kept steps, its members gave out the same.
abbrev pub AreAllIsolated : List Log → List Log → List Subject → Type 0
AreAllIsolated one other subjects =
    All (λ s. AreIsolated (log_at one s.net) (log_at other s.net) s.slot s.node) subjects
