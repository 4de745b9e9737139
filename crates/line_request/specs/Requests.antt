-- What lines of scripts of networks ask for.
use Rattle.std.specs.Prelude.{◌≡◌, ◌==◌, ◌^◌, ℕ, nat_eq, List, [], ◌∷◌, codes, Option, Some, None, option_map, option_and_then, if◌then◌else◌}
use Rattle.std.specs.List.{slice_split}
use lib.Pointwise.{pointwise}
use Rattle.line_script.specs.Script.{Bytes}
use Rattle.line_script.specs.Names.{word_name}
use Rattle.line_script.specs.Slices.{AreSlices}
use Rattle.line_script.specs.Words.{word_counter, word_number}
use Rattle.line_script.specs.WordLists.{each_word}
use Rattle.scp_types.specs.declared.event.Event.{Event}
use Rattle.scp_spec.specs.Networks.{Budgets}
use Rattle.scp_spec.specs.Rosters.{Shares}
use Rattle.host_config.specs.Budgets.{AreBudgets}
use Rattle.host_config.specs.declared.roster.Reservation.{Reservation}
use Rattle.line_request.specs.declared.request.Declaration.TheVariants.{Net, Node, Roster}
use Rattle.line_request.specs.declared.request.Request.{Request}
use Rattle.line_request.specs.declared.request.Request.TheVariants.{Declare, Apply, Settle}
use Rattle.line_request.specs.declared.verbs.Verb.{Verb}
use Rattle.line_request.specs.declared.verbs.Verb.TheVariants as verb
use Rattle.line_request.specs.Lines.{IsEventAsked, IsRead, slot_in, verb_in}

-- ---- declarations

-- a number behind its word, and the fields that follow
abbrev pub number_behind : Bytes → List Bytes → Option (ℕ × List Bytes)
number_behind name (word ∷ number ∷ more) =
    if pointwise nat_eq word name then option_map (λ n. (n, more)) (word_number (2 ^ 64) number) else None
number_behind name fields = None

abbrev pub budgets_of : ℕ → ℕ → ℕ × List Bytes → Option Budgets
budgets_of events bytes (slots, []) = Some (record { events = events; bytes = bytes; slots = slots })
budgets_of events bytes (slots, field ∷ more) = None

-- the budgets that fields spell, each number behind its word
abbrev pub budgets_in : List Bytes → Option Budgets
budgets_in fields =
    option_and_then (λ events. option_and_then (λ bytes. option_and_then (λ slots. budgets_of events.0 bytes.0 slots) (number_behind (codes "slots") bytes.1)) (number_behind (codes "bytes") events.1)) (number_behind (codes "events") fields)

-- these are budgets that a network can have, and the line declares it with them
abbrev pub AreAllowed : Option Budgets → Request → Type 0
AreAllowed None r = ⊥
AreAllowed (Some b) r = AreBudgets b.events b.bytes b.slots × (r ≡ Declare (Net b))

-- the node of a name, if any, and its slices
abbrev pub IsNode : Option ℕ → Bytes → Request → Type 0
IsNode None slices r = ⊥
IsNode (Some u) slices r = (q : _) × AreSlices slices (Some q) × (r ≡ Declare (Node u q))

-- the fields, a name and slices, ask to declare a node
abbrev pub AsksNode : List Bytes → Request → Type 0
AsksNode (name ∷ slices ∷ []) r = IsNode (word_name name) slices r
AsksNode fields r = ⊥

-- the shares that fields spell, each number behind its word, and the fields that follow
abbrev pub shares_in : List Bytes → Option (Shares × List Bytes)
shares_in fields =
    option_and_then (λ own. option_and_then (λ pair. option_and_then (λ bytes. option_map (λ opens. (record { own = own.0; pair = pair.0; bytes = bytes.0; opens = opens.0 }, opens.1))
    (number_behind (codes "opens") bytes.1)) (number_behind (codes "bytes") pair.1)) (number_behind (codes "pair") own.1)) (number_behind (codes "own") fields)

-- the names that a list with a comma (44) between each and the next spells
abbrev pub listed_names : Bytes → Option (List ℕ)
listed_names list = each_word word_name (slice_split (λ b. b == 44) list)

-- the names that the only field spells
abbrev pub only_names : List Bytes → Option (List ℕ)
only_names (list ∷ []) = listed_names list
only_names fields = None

-- these shares, if any, are reserved for the names that the fields behind them spell
abbrev pub IsReserved : Option (Shares × List Bytes) → Request → Type 0
IsReserved None r = ⊥
IsReserved (Some w) r =
    (d : Reservation) × (only_names w.1 ≡ Some d.names.items) × (d.shares ≡ w.0) × (r ≡ Declare (Roster d))

-- the fields, shares and names, ask to declare a roster
abbrev pub AsksRoster : List Bytes → Request → Type 0
AsksRoster fields r = IsReserved (shares_in fields) r

-- ---- requests

-- the slot that is to settle, which is the only field
abbrev pub settling_in : List Bytes → Option Request
settling_in (i ∷ []) = option_map (λ slot. Settle slot) (slot_in i)
settling_in fields = None

-- a line of this kind, by its fields after the number of the network, asks for this, or for nothing
abbrev pub IsRequest : Verb → List Bytes → Option Request → Type 0
IsRequest verb.Net fields asked = IsRead (AreAllowed (budgets_in fields)) asked
IsRequest verb.Node fields asked = IsRead (AsksNode fields) asked
IsRequest verb.Roster fields asked = IsRead (AsksRoster fields) asked
IsRequest verb.Settle fields asked = asked ≡ settling_in fields
IsRequest (verb.Event v) fields asked =
    (event : Option Event) × IsEventAsked v fields event × (asked ≡ option_map (λ e. Apply e) event)

-- a line of this kind, if it is one, asks for that of the network of this number, if it is one
abbrev pub IsRequestOf : Option Verb → Option ℕ → List Bytes → Option (ℕ × Request) → Type 0
IsRequestOf None number fields asked = asked ≡ None
IsRequestOf (Some v) None fields asked = asked ≡ None
IsRequestOf (Some v) (Some g) fields asked =
    (r : Option Request) × IsRequest v fields r × (asked ≡ option_map (λ x. (g, x)) r)

-- a line asks for this of the network of a number, or has none of the forms
abbrev pub IsRequested : List Bytes → Option (ℕ × Request) → Type 0
IsRequested (word ∷ number ∷ fields) asked = IsRequestOf (verb_in word) (word_counter number) fields asked
IsRequested fields asked = asked ≡ None
