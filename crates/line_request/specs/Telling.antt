-- What the lines of scripts of networks are.
use Rattle.std.specs.Prelude.{◌≡◌, ◌||◌, ◌&&◌, not, ℕ, Bool, true, false, ◌==◌, length, List, [], ◌∷◌, Option, Some, None, IfSome}
use Rattle.line_script.specs.Script.{Bytes}
use Rattle.line_script.specs.Words.{word_counter}
use Rattle.scp_types.specs.declared.event.Event.{Event}
use Rattle.scp_types.specs.declared.event.Event.TheVariants.{CloseSlot, Hear}
use Rattle.line_request.specs.declared.request.Request.{Request}
use Rattle.line_request.specs.declared.request.Request.TheVariants.{Declare, Apply, Settle}
use Rattle.line_request.specs.declared.request.Declaration.TheVariants.{Net}
use Rattle.line_request.specs.declared.order.Order.{Order}
use Rattle.line_request.specs.declared.order.Order.TheVariants as order
use Rattle.line_request.specs.Outlines.{Outlined, Waiting, waiting_at}
use Rattle.line_request.specs.Naming.{Named, is_in}
use Rattle.line_request.specs.Requests.{IsRequested}
use Rattle.line_request.specs.Ordering.{IsLineOrder}
use Rattle.line_request.specs.Taking.{is_declared, takes}

-- the line asks the network of a number for an event
abbrev pub AsksOf : List Bytes → ℕ → Event → Type 0
AsksOf fields g e = IsRequested fields (Some (g, Apply e))

-- the line settles a slot of the network of a number
abbrev pub Settles : List Bytes → ℕ → ℕ → Type 0
Settles fields g slot = IsRequested fields (Some (g, Settle slot))

-- ---- bad lines

abbrev pub IsBare : Option Outlined → Type 0
IsBare None = ⊥
IsBare (Some d) = d.nodes ≡ []

-- the network of a number is declared, no event has named it, and it has no node
abbrev pub HasNoNode : Waiting → ℕ → Type 0
HasNoNode ws g = IsBare (waiting_at ws g)

-- the network of a number waits and has no node, as a test
abbrev pub is_bare : Option Outlined → Bool
is_bare None = false
is_bare (Some d) = length d.nodes == 0

-- the event closes a slot
abbrev pub is_closing : Event → Bool
is_closing (CloseSlot slot) = true
is_closing e = false

-- whether lines may ask that a slot settles, and that one is closed. They may ask for all else.
pub record Allowed : Type 0 where
  pub settling : Bool
  pub closing : Bool

-- it is bad to ask this of the network of a number: always if it is not allowed, and else if the network has no node
abbrev pub IsBadToAsk : Bool → Waiting → ℕ → Type 0
IsBadToAsk false ws g = Unit {0}
IsBadToAsk true ws g = HasNoNode ws g

-- A request to the network of a number is bad. A declaration is bad if it is not taken. An event, or a slot that is to
-- settle, is bad if it is not allowed or the network has no node.
abbrev pub IsBadRequest : Allowed → Waiting → Named → ℕ → Request → Type 0
IsBadRequest a ws n g (Declare d) = takes ws n g d ≡ false
IsBadRequest a ws n g (Apply e) = IsBadToAsk (a.closing || not (is_closing e)) ws g
IsBadRequest a ws n g (Settle slot) = IsBadToAsk a.settling ws g

-- the line has none of the forms, or what it asks for is bad
abbrev pub RefusesAsked : Allowed → Waiting → Named → List Bytes → Type 0
RefusesAsked a ws n fields =
    (asked : Option (ℕ × Request)) × IsRequested fields asked × IfSome asked (λ r. IsBadRequest a ws n r.0 r.1)

-- ---- bad lines if some networks are served

-- the event is that a node hears another one
abbrev pub is_hearing : Event → Bool
is_hearing (Hear i u from kind k) = true
is_hearing e = false

-- lines may ask the network of a number for this event: in one that is served nobody is told by a line what to hear
abbrev pub may_apply : Named → ℕ → Event → Bool
may_apply n g e = not (is_in n.served g && is_hearing e)

-- lines have declared the network of a number, and not as served
abbrev pub is_unserved : Waiting → Named → ℕ → Bool
is_unserved ws n g = is_declared ws n g && not (is_in n.served g)

-- An order to the network of a number is bad. A declaration is bad if it is not taken. A hearing, or a slot that is to
-- settle, is bad if the network is served. Bytes for all nodes, or a `drop`, are bad if it is declared and not served.
-- All but a declaration and a `drop` are bad if it has no node.
abbrev pub IsBadOrder : Waiting → Named → ℕ → Order → Type 0
IsBadOrder ws n g (order.Request (Declare d)) = takes ws n g d ≡ false
IsBadOrder ws n g (order.Request (Apply e)) = IsBadToAsk (may_apply n g e) ws g
IsBadOrder ws n g (order.Request (Settle slot)) = IsBadToAsk (not (is_in n.served g)) ws g
IsBadOrder ws n g (order.Serve b) = takes ws n g (Net b) ≡ false
IsBadOrder ws n g (order.ForAll bytes) = IsBadToAsk (not (is_unserved ws n g)) ws g
IsBadOrder ws n g order.Drop = is_unserved ws n g ≡ true

-- the line has none of the forms, or what it orders is bad
abbrev pub RefusesOrder : Waiting → Named → List Bytes → Type 0
RefusesOrder ws n fields =
    (ordered : Option (ℕ × Order)) × IsLineOrder fields ordered × IfSome ordered (λ r. IsBadOrder ws n r.0 r.1)
