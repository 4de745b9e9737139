-- Hosts of many networks: journals, whole runs and histories.
use Rattle.scp_types.specs.declared.event.Event.{Event}
use Rattle.scp_types.specs.declared.event.Out.{Out}
use Rattle.std.specs.Prelude.{ℕ, ◌==◌, List, [], ◌∷◌, Option, Some, None, map, if◌then◌else◌}
use Rattle.scp_spec.specs.Rosters.{Roster}
use Rattle.scp_spec.specs.Networks.{Reading, Step, step_of_event, HostedNode, Budgets, Net, Reply, net_step}
use Rattle.scp_types.specs.declared.event.Refusal.TheVariants.{NoSuchNetwork}
use Rattle.scp_spec.specs.Networks.Reply.{Done, Refused}

-- an applied event, with what it gave out
pub record Entry : Type 0 where
  pub event : Step
  pub outs : List Out

-- a refused event is not journalled; every other one is
abbrev pub journal_with : Step → Reply → List Entry → List Entry
journal_with e (Refused n) es = es
journal_with e (Done os) es = record { event = e; outs = os } ∷ es

-- the journal of a network
unfoldable pub journal : Net → List Step → List Entry
journal net [] = []
journal net (e ∷ es) = journal_with e (net_step net e).1 (journal (net_step net e).0 es)

-- ---- a host: networks by number
abbrev pub net_at : List Net → ℕ → Option Net
net_at [] g = None
net_at (n ∷ ns) g = if n.number == g then Some n else net_at ns g

-- an event of a network that is not there is refused
abbrev pub reply_at : Option Net → Step → Reply
reply_at None e = Refused NoSuchNetwork
reply_at (Some n) e = (net_step n e).1

-- the replies to a whole history, in order
unfoldable pub host_run : List Net → List (ℕ × Step) → List Reply
host_run nets [] = []
host_run nets (c ∷ cs) =
    reply_at (net_at nets c.0) c.1 ∷ host_run (map (λ n. if n.number == c.0 then (net_step n c.1).0 else n) nets) cs

-- the applied events of one network, with what they gave out
unfoldable pub applied_entries : ℕ → List (ℕ × Step) → List Reply → List Entry
applied_entries g [] rs = []
applied_entries g (c ∷ cs) [] = []
applied_entries g (c ∷ cs) (r ∷ rs) =
    if c.0 == g then journal_with c.1 r (applied_entries g cs rs) else applied_entries g cs rs

-- ---- configurations and histories
-- a network as it is configured
pub record Config : Type 0 where
  pub number : ℕ
  pub nodes : List HostedNode
  pub budgets : Budgets
  pub roster : Option Roster

-- a network where nothing has happened
abbrev pub new_net : Config → Net
new_net config =
    record {
      number = config.number;
      nodes = config.nodes;
      budgets = config.budgets;
      roster = config.roster;
      slots = [];
      events = 0;
      bytes = 0;
      opens = 0;
      draws = [];
    }

-- the networks of a host, before any event
abbrev pub nets : List Config → List Net
nets configs = map new_net configs

-- the hosted nodes of a network; none if the network is not there
abbrev pub nodes_of : List Config → ℕ → List HostedNode
nodes_of [] g = []
nodes_of (c ∷ cs) g = if c.number == g then c.nodes else nodes_of cs g

-- a host history: configurations, and events of any networks in any order
pub record History : Type 0 where
  pub configs : List Config
  pub calls : List (ℕ × Event)

-- what the events of a history are, by a decoder of envelopes
abbrev pub steps_of : (List ℕ → Reading) → List (ℕ × Event) → List (ℕ × Step)
steps_of decode calls = map (λ c. (c.0, step_of_event decode c.1)) calls

-- the applied events of one network
abbrev pub entries : (List ℕ → Reading) → History → ℕ → List Entry
entries decode h g = applied_entries g (steps_of decode h.calls) (host_run (nets h.configs) (steps_of decode h.calls))
