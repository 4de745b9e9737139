-- The journals of many networks, by number, and the histories that they are those of.
use Rattle.std.specs.Prelude.{◌≡◌, ℕ, ◌<◌, ◌≤◌, ◌==◌, nat_lt, not, IsTrue, length, insert, filter, map, List, [], ◌∷◌, ◌++◌, Result, Ok, Err, Option, Some, None, is_some, if◌then◌else◌}
use Rattle.scp_types.specs.declared.event.Event.{Event}
use Rattle.scp_types.specs.declared.event.Out.{Out}
use Rattle.scp_types.specs.declared.event.Refusal.{Refusal}
use Rattle.scp_types.specs.declared.event.Refusal.TheVariants.{NoSuchNetwork}
use Rattle.scp_spec.specs.Sets.{IsAscending}
use Rattle.scp_spec.specs.Networks.{Step}
use Rattle.scp_spec.specs.Hosts.{Config, History, entries}
use Rattle.host_config.specs.Configs.{index_in}
use Rattle.host_network.specs.declared.applied.Given.{Given}
use Rattle.host_network.specs.Decoding.{reading, step_of}
use Rattle.host_journal.specs.Logs.{IsEntered, IsRefused, Log, marks_of, with_entry}
use Rattle.host_world.specs.declared.world.WorldError.{WorldError}
use Rattle.host_world.specs.declared.world.WorldError.TheVariants.{NetTwice, TooManyNets, NoMemory}

-- the numbers of networks
abbrev pub numbers_of : List Log → List ℕ
numbers_of ls = map (λ l. l.config.number) ls

-- each number is below the next, and there are at most 4,096
abbrev pub AreByNumber : List Log → Type 0
AreByNumber ls = IsAscending (numbers_of ls) × (length ls ≤ 4096)

-- the journal of a network
abbrev pub log_at : List Log → ℕ → Option Log
log_at [] g = None
log_at (l ∷ ls) g = if l.config.number == g then Some l else log_at ls g

-- the journals of a world with one more, in the place of its number
abbrev pub logs_with : Log → List Log → List Log
logs_with l [] = l ∷ []
logs_with l (k ∷ ks) = if nat_lt k.config.number l.config.number then k ∷ logs_with l ks else l ∷ k ∷ ks

-- the journals with that one in the place of the one of its number; if there is none, the journals as they are
abbrev pub logs_set : Log → List Log → List Log
logs_set l [] = []
logs_set l (k ∷ ks) = if k.config.number == l.config.number then l ∷ ks else k ∷ logs_set l ks

-- the journals of a world but that of a number
abbrev pub logs_without : ℕ → List Log → List Log
logs_without g ls = filter (λ l. not (l.config.number == g)) ls

-- the place of a network; or it is not there, and this is where it would stand
abbrev pub IsPlaceOf : List Log → ℕ → Result ℕ ℕ → Type 0
IsPlaceOf ls g (Ok k) = (index_in (numbers_of ls) g ≡ Some k) × (k < length ls)
IsPlaceOf ls g (Err i) =
    (index_in (numbers_of ls) g ≡ None) × (i ≤ length ls) × IsAscending (insert (numbers_of ls) i g)
    × ((l : Log) → l.config.number ≡ g → logs_with l ls ≡ insert ls i l)

-- why a network of this number is not added
abbrev pub IsNotAdded : List Log → ℕ → WorldError → Type 0
IsNotAdded ls g NetTwice = IsTrue (is_some (log_at ls g))
IsNotAdded ls g TooManyNets = (log_at ls g ≡ None) × (length ls ≡ 4096)
IsNotAdded ls g NoMemory = (log_at ls g ≡ None) × (length ls < 4096)

-- ---- histories
-- a history, with one more event
abbrev pub and_then : History → ℕ → Event → History
and_then h g e = record h { calls = h.calls ++ (g, e) ∷ [] }

-- the configurations with one more, in the place of its number
abbrev pub configs_with : Config → List Config → List Config
configs_with c [] = c ∷ []
configs_with c (k ∷ ks) = if nat_lt k.number c.number then k ∷ configs_with c ks else c ∷ k ∷ ks

-- a history in which one more network is there from the start, without the events that named it
abbrev pub with_new_network : Config → History → History
with_new_network c h =
    record { configs = configs_with c h.configs; calls = filter (λ x. not (x.0 == c.number)) h.calls }

-- a history in which one more network is there with what another history does to it, behind all else
abbrev pub with_history_of : Config → History → History → History
with_history_of c own h = record h {
  configs = configs_with c h.configs;
  calls = filter (λ x. not (x.0 == c.number)) h.calls ++ filter (λ x. x.0 == c.number) own.calls;
}

-- a history in which a network is not there, without the events that named it
abbrev pub history_without : ℕ → History → History
history_without g h = record {
  configs = filter (λ c. not (c.number == g)) h.configs;
  calls = filter (λ x. not (x.0 == g)) h.calls;
}

-- the journals are those of a history: its configurations, and of each network the entries that the history applies to
-- it
pub record AreJournalsOf (h : History) (logs : List Log) : Type 0 where
  pub configs : map (λ l. l.config) logs ≡ h.configs
  pub entries : (g : ℕ) (l : Log) → log_at logs g ≡ Some l → l.entries ≡ entries reading h g

-- What an event of a network is answered, by the journal of the network. Without one it is refused, and all is as it
-- was.
abbrev pub IsAnsweredAt : Option Log → List Log → Step → Result (List Out) Refusal → List Log → Type 0
IsAnsweredAt None old e r new = (r ≡ Err NoSuchNetwork) × (new ≡ old)
IsAnsweredAt (Some l) old e (Ok os) new = IsEntered l e os × (new ≡ logs_set (with_entry l e os) old)
IsAnsweredAt (Some l) old e (Err r) new = IsRefused l e r × (new ≡ old)

-- an answer with its outs as a list
abbrev pub items_of : Result Given Refusal → Result (List Out) Refusal
items_of (Ok g) = Ok g.outs.items
items_of (Err r) = Err r

-- an event of the network of a number is answered, and its journal has the entry; all else is as it was
abbrev pub IsAnswered : List Log → ℕ → Event → Result Given Refusal → List Log → Type 0
IsAnswered old g e r new = IsAnsweredAt (log_at old g) old (step_of e) (items_of r) new

-- by which numbers the emissions of an event of a network are named, after the entries of its journal
abbrev pub marks_in_log : Option Log → Step → List ℕ
marks_in_log None e = []
marks_in_log (Some l) e = marks_of l.config l.entries e

-- by which numbers the emissions of an event of the network of a number are named
abbrev pub marks_at : List Log → ℕ → Event → List ℕ
marks_at logs g e = marks_in_log (log_at logs g) (step_of e)
