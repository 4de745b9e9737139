-- Networks without a roster: the rules in full for those, in which all draws on the budgets; and that rosters change
-- nothing there.
use Rattle.scp_types.specs.declared.event.Refusal.{Refusal}
use Rattle.scp_types.specs.declared.event.Refusal.TheVariants.{NoSuchNode, SlotOpenAlready, TooManySlots, BadEnvelope, HostedSender, NotEmitted, JournalFull, BytesFull, BadValue, ProposedAlready}
use Rattle.std.specs.Prelude.{◌≡◌, Bool, true, not, ◌||◌, ◌+◌, ◌==◌, nat_lt, length, List, [], ◌∷◌, Option, Some, None, is_none}
use Rattle.scp_spec.specs.Networks.{Net, Step, Reply, instances_at, node_where_open, emission, effect, is_hosted, is_open, has_proposal, is_bad_value, hosted_test, open_test, first_that, size_of, net_step}
use Rattle.scp_spec.specs.Networks.Reading.{Read, Fault}
use Rattle.scp_spec.specs.Networks.Step.{Opens, Closes, Proposes, Delivers, Hears, NominationTimerFires, BallotTimerFires, Reslices}
use Rattle.scp_spec.specs.Networks.Reply.{Done, Refused}
use Rattle.scp_spec.specs.Hosts.{Config, Entry}
use Rattle.scp_spec.specs.Runs.{state_of}

-- the journal's budget is used up
abbrev pub is_journal_full : Net → Bool × Refusal
is_journal_full net = (not (nat_lt net.events net.budgets.events), JournalFull)

-- the tests of an event, in this order, each with its refusal if it holds
abbrev pub tests_without : Net → Step → List (Bool × Refusal)
tests_without net (Opens i) =
    (is_open net i, SlotOpenAlready) ∷ (
      not (nat_lt (length net.slots) net.budgets.slots),
      TooManySlots,
    ) ∷ is_journal_full net ∷ []
tests_without net (Closes i) = open_test net i ∷ is_journal_full net ∷ []
tests_without net (Proposes i u x) =
    hosted_test net u ∷ open_test net i ∷ (is_bad_value x, BadValue) ∷ (
      has_proposal (node_where_open (instances_at net.slots i) u),
      ProposedAlready,
    ) ∷ is_journal_full net ∷ []
tests_without net (Delivers u size (Fault n)) = hosted_test net u ∷ (true, BadEnvelope n) ∷ []
tests_without net (Delivers u size (Read e)) =
    hosted_test net u ∷ (is_hosted net e.sender, HostedSender) ∷ open_test net e.slot ∷ is_journal_full net ∷
    (nat_lt net.budgets.bytes (net.bytes + size), BytesFull) ∷ []
tests_without net (Hears i u from kind k) =
    (not (is_hosted net u) || not (is_hosted net from) || (u == from), NoSuchNode) ∷ open_test net i ∷
    (is_none (emission (node_where_open (instances_at net.slots i) from) kind k), NotEmitted) ∷ is_journal_full net ∷ []
tests_without net (NominationTimerFires i u r) = hosted_test net u ∷ open_test net i ∷ is_journal_full net ∷ []
tests_without net (BallotTimerFires i u n) = hosted_test net u ∷ open_test net i ∷ is_journal_full net ∷ []
tests_without net (Reslices i u q) = hosted_test net u ∷ open_test net i ∷ is_journal_full net ∷ []

-- counted in the journal
abbrev pub counted_without : Step → Net → Net
counted_without e net = record net { events = net.events + 1; bytes = net.bytes + size_of e }

-- a refused event changes nothing; another one is counted and does what it does
abbrev pub replied_without : Net → Step → Option Refusal → Net × Reply
replied_without net e (Some n) = (net, Refused n)
replied_without net e None = (counted_without e (effect net e).0, Done (effect net e).1)

-- the first refusal that applies, with the state unchanged; else what the event does
abbrev pub step_without : Net → Step → Net × Reply
step_without net e = replied_without net e (first_that (tests_without net e))

-- a network without a roster steps by the rules without shares
abbrev pub StepsWithout : Type 0
StepsWithout = (net : Net) (e : Step) → net.roster ≡ None → net_step net e ≡ step_without net e

-- the network has no roster, and nothing was drawn on openings and closings or on shares
pub record HasNoShares (net : Net) : Type 0 where
  pub roster : net.roster ≡ None
  pub opens : net.opens ≡ 0
  pub draws : net.draws ≡ []

-- a network without a roster never has shares
abbrev pub StaysWithout : Type 0
StaysWithout = (config : Config) (before : List Entry) → config.roster ≡ None → HasNoShares (state_of config before)
