-- What a journal determines: by the configuration and the entries before, the state, and the refusal or the outs of an
-- event.
use Rattle.scp_types.specs.declared.event.Refusal.{Refusal}
use Rattle.scp_types.specs.declared.event.Out.{Out}
use Rattle.std.specs.Prelude.{◌≡◌, ℕ, List, [], ◌∷◌, take, slice_get, map, Option, Some, None}
use Rattle.scp_spec.specs.Networks.{Step, Net, tests, first_that, effect, net_step}
use Rattle.scp_spec.specs.Hosts.{Entry, Config, new_net, journal}

-- a network after the events of these entries
unfoldable pub net_after : Net → List Entry → Net
net_after net [] = net
net_after net (x ∷ xs) = net_after (net_step net x.event).0 xs

-- a network as it is configured, after these entries
abbrev pub state_of : Config → List Entry → Net
state_of config before = net_after (new_net config) before

-- the first refusal that applies to an event; none if none does
abbrev pub refusal_of : Config → List Entry → Step → Option Refusal
refusal_of config before e = first_that (tests (state_of config before) e)

-- what an applied event gives out
abbrev pub outs_given : Config → List Entry → Step → List Out
outs_given config before e = (effect (state_of config before) e).1

-- Entries are a run of a configuration. Each event is one that is not refused after the entries before it, and has its
-- outs. So each beginning of a run is a run.
pub record IsRun (config : Config) (entries : List Entry) : Type 0 where
  pub applied : (k : ℕ) (x : Entry) → slice_get entries k ≡ Some x → refusal_of config (take k entries) x.event ≡ None
  pub outs : (k : ℕ) (x : Entry) → slice_get entries k ≡ Some x → x.outs ≡ outs_given config (take k entries) x.event

-- the journal of any events is a run
abbrev pub JournalsAreRuns : Type 0
JournalsAreRuns = (config : Config) (events : List Step) → IsRun config (journal (new_net config) events)

-- a run is the journal of its own events
abbrev pub RunsAreJournals : Type 0
RunsAreJournals = (config : Config) (entries : List Entry) → IsRun config entries
    → entries ≡ journal (new_net config) (map (λ x. x.event) entries)
