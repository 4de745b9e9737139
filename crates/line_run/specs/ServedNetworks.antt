-- What events do to a network, and what others hear of them if it is served.
use Rattle.std.specs.Prelude.{◌≡◌, ◌≢◌, ◌++◌, ℕ, Bool, true, false, List, [], ◌∷◌, Option, Some, None, Result, Ok, Err, option_map}
use Rattle.line_script.specs.Script.{Bytes}
use Rattle.scp_types.specs.Statements.{Sent}
use Rattle.scp_types.specs.declared.event.Event.{Event}
use Rattle.scp_types.specs.declared.event.Event.TheVariants.{Deliver}
use Rattle.scp_types.specs.declared.event.Out.{Out}
use Rattle.scp_types.specs.declared.event.Refusal.{Refusal}
use Rattle.scp_types.specs.declared.event.Refusal.TheVariants.{NoMemory, NoSuchNetwork}
use Rattle.host_config.specs.Configs.{names_of}
use Rattle.host_network.specs.declared.applied.Given.{Given}
use Rattle.host_network.specs.declared.emission.Emission.{Emission}
use Rattle.host_journal.specs.Logs.{Log}
use Rattle.host_world.specs.Worlds.{IsAnswered, log_at, logs_without, marks_at}
use Rattle.line_request.specs.Naming.{IsForgotten, is_in}
use Rattle.line_request.specs.Outlines.{waiting_without}
use Rattle.line_run.specs.Hosting.{DeclaresNothing, Hosting, IsNetworkBegun}
use Rattle.line_run.specs.Settling.{IsHeardBy, others}
use Rattle.line_run.specs.Unheard.{WaitsAfter, slot_closed_by, named_emissions, first_emitted}

-- the hosted nodes of a network, ascending, by its journal, if it is there
abbrev pub hosted_names_in : Option Log → Option (List ℕ)
hosted_names_in l = option_map (λ x. names_of x.config.nodes) l

-- ---- who hears of an event

-- Each of these nodes hears an emission, unless it is its own, one after the other. What they emit meanwhile is this. A
-- hearing that is refused is not tried again, and the next one follows. Memory is enough for each.
pub data HaveOthersHeard (g slot : ℕ) (e : Emission) : List ℕ → List Log → List Emission → List Log → Type 0 where
  all_heard : {logs : List Log} → HaveOthersHeard g slot e [] logs [] logs
  one_heard : {u : ℕ} {us : List ℕ} {old now new : List Log} {some more : List Emission} (ended : Option Refusal)
      → IsHeardBy g slot e (others e (u ∷ [])) old some ended now → ended ≢ Some NoMemory
      → HaveOthersHeard g slot e us now more new → HaveOthersHeard g slot e (u ∷ us) old (some ++ more) new

-- What waits is heard at a slot by all others, the first emission first, until none waits. Those that come meanwhile
-- wait behind the others.
pub data AllIsHeard (g slot : ℕ) (names : List ℕ) : List Log → List Emission → List Log → Type 0 where
  none_waits : {logs : List Log} → AllIsHeard g slot names logs [] logs
  one_waits : {old now new : List Log} {e : Emission} {es more : List Emission}
      → HaveOthersHeard g slot e names old more now
      → AllIsHeard g slot names now (es ++ more) new → AllIsHeard g slot names old (e ∷ es) new

-- these nodes, if the network is there, hear what was emitted at a slot
abbrev pub IsHeardByOthers : ℕ → ℕ → Option (List ℕ) → List Log → List Emission → List Log → Type 0
IsHeardByOthers g slot None old es new = new ≡ old
IsHeardByOthers g slot (Some names) old es new = AllIsHeard g slot names old es new

-- these nodes hear it at the slot of what was emitted first, if anything was: all that an event emits is of its slot
abbrev pub IsHeardAt : ℕ → Option Sent → Given → List Log → List Log → Type 0
IsHeardAt g None r old new = new ≡ old
IsHeardAt g (Some e) r old new = IsHeardByOthers g e.slot (hosted_names_in (log_at old g)) old (named_emissions r) new

-- What an event gave out waits to be handed on by a line. If the network is served, the others hear it now, and it does
-- not wait.
abbrev pub IsHeardOf : Bool → ℕ → Event → Given → List Log → Hosting → Hosting → Type 0
IsHeardOf false g e r now old new = (new.logs ≡ now) × WaitsAfter (slot_closed_by e) g r old.unheard new.unheard
IsHeardOf true g e r now old new = IsHeardAt g (first_emitted r.outs.items) r now new.logs × (new.unheard ≡ old.unheard)

-- an event that was answered so has been heard of; of one that was refused there is nothing to hear
abbrev pub AnswerIsHeardOf : Bool → ℕ → Event → Result Given Refusal → List Log → Hosting → Hosting → Type 0
AnswerIsHeardOf served g e (Err r) now old new = (new.logs ≡ now) × (new.unheard ≡ old.unheard)
AnswerIsHeardOf served g e (Ok r) now old new =
    (r.marks.items ≡ marks_at old.logs g e) × IsHeardOf served g e r now old new

-- an event is put to the network of a number and answered, and then heard of
abbrev pub IsEventServed : ℕ → Event → Result Given Refusal → Hosting → Hosting → Type 0
IsEventServed g e r old new =
    (now : List Log) × IsAnswered old.logs g e r now × AnswerIsHeardOf (is_in old.named.served g) g e r now old new
    × DeclaresNothing old new

-- an event is put to the network of a number, which it may be the first to name, and answered
abbrev pub IsEventPut : ℕ → Event → Hosting → Result Given Refusal → Hosting → Type 0
IsEventPut g e old r new = (begun : Hosting) × IsNetworkBegun g old begun × IsEventServed g e r begun new

-- ---- bytes for all nodes

-- the bytes come to each of these nodes, one after the other, and what is given out is heard of
pub data AreDelivered (g : ℕ) (bytes : Bytes) : List ℕ → Hosting → List (Result Given Refusal) → Hosting → Type 0 where
  none_left : {h : Hosting} → AreDelivered g bytes [] h [] h
  next_node : {u : ℕ} {us : List ℕ} {old now new : Hosting} {rs : List (Result Given Refusal)}
      (r : Result Given Refusal) → IsEventServed g (Deliver u bytes) r old now
      → AreDelivered g bytes us now rs new
      → AreDelivered g bytes (u ∷ us) old (r ∷ rs) new

-- by the names of the nodes of the network, if it is there; if it is not, that is the one answer
abbrev pub AreDeliveredTo : ℕ → Bytes → Option (List ℕ) → Hosting → List (Result Given Refusal) → Hosting → Type 0
AreDeliveredTo g bytes None old rs new = (new ≡ old) × (rs ≡ Err NoSuchNetwork ∷ [])
AreDeliveredTo g bytes (Some names) old rs new = AreDelivered g bytes names old rs new

-- bytes come to all nodes of the network of a number, if it is there; else that is the one answer
abbrev pub AreAllDelivered : ℕ → Bytes → Hosting → List (Result Given Refusal) → Hosting → Type 0
AreAllDelivered g bytes old rs new = AreDeliveredTo g bytes (hosted_names_in (log_at old.logs g)) old rs new

-- ---- networks that are taken back

-- The network of a number is not there any more, with all that it held. The number is one that no line has named. In a
-- served network nothing waits that could be left.
pub record IsTakenBack (g : ℕ) (old new : Hosting) : Type 0 where
  pub waiting : new.waiting ≡ waiting_without old.waiting g
  pub named : IsForgotten g old.named new.named
  pub unheard : new.unheard ≡ old.unheard
  pub logs : new.logs ≡ logs_without g old.logs

-- the network of a number is taken back, if lines have declared it, and nothing is given out; else that is the refusal
abbrev pub IsDropAnswered : Bool → ℕ → Hosting → Result (List Out) Refusal → Hosting → Type 0
IsDropAnswered false g old r new = (r ≡ Err NoSuchNetwork) × (new ≡ old)
IsDropAnswered true g old r new = (r ≡ Ok []) × IsTakenBack g old new
