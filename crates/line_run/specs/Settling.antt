-- What a line that settles does to its network, and what it prints.
use Rattle.std.specs.Prelude.{◌≡◌, ◌==◌, ◌++◌, not, ℕ, Bool, true, false, filter, List, [], ◌∷◌, Option, Some, None, Ok, Err}
use Rattle.line_script.specs.Script.{Bytes}
use Rattle.scp_types.specs.declared.event.Event.{Event}
use Rattle.scp_types.specs.declared.event.Event.TheVariants.{Hear}
use Rattle.scp_types.specs.declared.event.Refusal.{Refusal}
use Rattle.scp_types.specs.declared.event.Refusal.TheVariants.{NoSuchNetwork, SlotNotOpen}
use Rattle.scp_spec.specs.Networks.{is_open}
use Rattle.scp_spec.specs.Runs.{state_of}
use Rattle.host_config.specs.Configs.{names_of}
use Rattle.host_network.specs.declared.applied.Given.{Given}
use Rattle.host_network.specs.declared.emission.Emission.{Emission}
use Rattle.host_journal.specs.Logs.{Log}
use Rattle.host_world.specs.Worlds.{IsAnswered, log_at, marks_at}
use Rattle.line_request.specs.Replies.{refusal_text}
use Rattle.line_run.specs.Hosting.{DeclaresNothing, Hosting, IsNetworkBegun}
use Rattle.line_run.specs.SettledLines.{settled_text}
use Rattle.line_run.specs.Unheard.{WaitThere, named_emissions, unheard_at}

-- ---- one emission

-- a node hears an emission at a slot
abbrev pub hearing : ℕ → ℕ → Emission → Event
hearing slot u e = Hear slot u e.from e.kind e.number

-- these names but the one of a sender
abbrev pub others : Emission → List ℕ → List ℕ
others e names = filter (λ u. not (u == e.from)) names

-- an event of the network of a number is applied, and gives this out, with these marks
abbrev pub IsGivenOut : ℕ → Event → List Log → Given → List Log → Type 0
IsGivenOut g e old r new = IsAnswered old g e (Ok r) new × (r.marks.items ≡ marks_at old g e)

-- Nodes hear an emission, one after the other, each by an event of the network. What they emit meanwhile is this, in
-- order. The first hearing that is refused is the last.
pub data IsHeardBy (g slot : ℕ) (e : Emission) : List ℕ → List Log → List Emission → Option Refusal → List Log → Type 0 where
  by_all : {logs : List Log} → IsHeardBy g slot e [] logs [] None logs
  by_one : {u : ℕ} {us : List ℕ} {old now new : List Log} {more : List Emission} {ended : Option Refusal} (r : Given)
      → IsGivenOut g (hearing slot u e) old r now → IsHeardBy g slot e us now more ended new
      → IsHeardBy g slot e (u ∷ us) old (named_emissions r ++ more) ended new
  refused : {u : ℕ} {us : List ℕ} {old new : List Log} (r : Refusal) → IsAnswered old g (hearing slot u e) (Err r) new
      → IsHeardBy g slot e (u ∷ us) old [] (Some r) new

-- ---- all that wait

-- What waits at a slot is handed on, the first emission first: all other nodes hear it, in the order of the names. What
-- they emit waits behind the others. The first hearing that is refused ends it, and then these are left to wait: the
-- emission that was being heard, and all behind it.
pub data AreHandedOn (g slot : ℕ) (names : List ℕ)
    : List Log → List Emission → Option Refusal → List Emission → List Log → Type 0 where
  none_waits : {logs : List Log} → AreHandedOn g slot names logs [] None [] logs
  one_waits : {old now new : List Log} {e : Emission} {es more left : List Emission} {ended : Option Refusal}
      → IsHeardBy g slot e (others e names) old more None now
      → AreHandedOn g slot names now (es ++ more) ended left new
      → AreHandedOn g slot names old (e ∷ es) ended left new
  cut_short : {old new : List Log} {e : Emission} {es more : List Emission} (r : Refusal)
      → IsHeardBy g slot e (others e names) old more (Some r) new
      → AreHandedOn g slot names old (e ∷ es) (Some r) (e ∷ es ++ more) new

-- ---- what is printed

-- the line of a slot that settles: the refusal, if there is one; else what each node has externalized there, by the
-- journal after it
abbrev pub settling_line : Option Refusal → Option Log → ℕ → Bytes
settling_line None l slot = settled_text l slot
settling_line (Some r) l slot = refusal_text r

-- ---- what a line that settles does

-- if the slot is open, what waits there is handed on; if it is not, that is the refusal, and nobody hears anything
abbrev pub HasSettledAt : Bool → ℕ → ℕ → List ℕ → Hosting → Option Refusal → Hosting → Type 0
HasSettledAt false g slot names old ended new = (new ≡ old) × (ended ≡ Some SlotNotOpen)
HasSettledAt true g slot names old ended new =
    (left : List Emission) × AreHandedOn g slot names old.logs (unheard_at old.unheard g slot) ended left new.logs
    × WaitThere g slot left old.unheard new.unheard × DeclaresNothing old new

-- by the journal of the network, if it is there; if it is not, that is the refusal
abbrev pub HasSettledIn : Option Log → ℕ → ℕ → Hosting → Option Refusal → Hosting → Type 0
HasSettledIn None g slot old ended new = (new ≡ old) × (ended ≡ Some NoSuchNetwork)
HasSettledIn (Some l) g slot old ended new =
    HasSettledAt (is_open (state_of l.config l.entries) slot) g slot (names_of l.config.nodes) old ended new

-- what becomes of the networks when a slot settles, with what ended it
abbrev pub HasSettled : ℕ → ℕ → Hosting → Option Refusal → Hosting → Type 0
HasSettled g slot old ended new = HasSettledIn (log_at old.logs g) g slot old ended new

-- a slot of a network settles, by a line that may be the first that names it, with what ended it
abbrev pub IsSettled : ℕ → ℕ → Hosting → Option Refusal → Hosting → Type 0
IsSettled g slot old ended new = (begun : Hosting) × IsNetworkBegun g old begun × HasSettled g slot begun ended new
