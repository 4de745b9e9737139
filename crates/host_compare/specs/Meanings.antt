-- Verdicts, and the isolation that each comparison carries, over journals.
use Rattle.std.specs.Prelude.{◌≡◌, ℕ, List, [], Option, Some, None, IsTrue}
use Rattle.scp_spec.specs.Networks.{HostedNode}
use Rattle.scp_spec.specs.Hosts.{Entry, History, entries, nodes_of}
use Rattle.scp_spec.specs.Verdicts as verdicts
use Rattle.scp_spec.specs.Isolation.{closure, kept_of, outs_of, SameCast}
use Rattle.host_network.specs.Decoding.{reading}
use Rattle.host_journal.specs.Logs.{Log}
use Rattle.host_compare.specs.declared.verdict.Verdict.{Verdict}
use Rattle.host_compare.specs.declared.verdict.Verdict.TheVariants.{CastDiffers, InputsDiffer, Same}

-- the verdict of the definitions
abbrev pub defined_verdict : Verdict → verdicts.Verdict
defined_verdict (CastDiffers u) = verdicts.Verdict.CastDiffers u
defined_verdict (InputsDiffer place) = verdicts.Verdict.InputsDiffer place
defined_verdict (Same list) = verdicts.Verdict.Same list

-- the hosted nodes of a network; nobody if a world lacks it
abbrev pub nodes_in : Option Log → List HostedNode
nodes_in None = []
nodes_in (Some l) = l.config.nodes

-- the entries of its journal; none if a world lacks it
abbrev pub entries_in : Option Log → List Entry
entries_in None = []
entries_in (Some l) = l.entries

-- A verdict is right of what two worlds have of a network, for the closure of v at slot i in the first.
abbrev pub IsVerdictOn : Option Log → Option Log → ℕ → ℕ → Verdict → Type 0
IsVerdictOn one other i v verdict =
    verdicts.IsVerdict (nodes_in one) (nodes_in other) (entries_in one) (entries_in other) i v (defined_verdict verdict)

-- A verdict is right of a network in two histories, whose bytes are read as the codec reads them.
abbrev pub IsVerdictBetween : History → History → ℕ → ℕ → ℕ → Verdict → Type 0
IsVerdictBetween h k g i v verdict =
    verdicts.IsVerdict (nodes_of h.configs g) (nodes_of k.configs g) (entries reading h g) (entries reading k g) i v (defined_verdict verdict)

-- Let both worlds have the same cast for the closure of v in the first, and the same kept steps. Then each member gave
-- out the same in both.
abbrev pub AreIsolated : Option Log → Option Log → ℕ → ℕ → Type 0
AreIsolated one other i v =
    let R = closure (nodes_in one) i v (entries_in one) in
    SameCast R v (nodes_in one) (nodes_in other) → kept_of R i (entries_in one) ≡ kept_of R i (entries_in other)
    → (u : ℕ) → IsTrue (R u) → outs_of i u (entries_in one) ≡ outs_of i u (entries_in other)
