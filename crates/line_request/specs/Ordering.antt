-- What lines order if some networks are served and others are not.
use Rattle.std.specs.Prelude.{◌≡◌, ℕ, List, Option, Some, None, option_and_then}
use Rattle.line_script.specs.Script.{Bytes}
use Rattle.line_request.specs.declared.request.Request.{Request}
use Rattle.line_request.specs.declared.request.Declaration.{Declaration}
use Rattle.line_request.specs.declared.request.Declaration.TheVariants.{Net, Node, Roster}
use Rattle.line_request.specs.declared.ask.Ask.{Ask}
use Rattle.line_request.specs.declared.ask.Ask.TheVariants as ask
use Rattle.line_request.specs.declared.order.Order.{Order}
use Rattle.line_request.specs.declared.order.Order.TheVariants as order
use Rattle.line_request.specs.Asking.{IsAskedOf}
use Rattle.line_request.specs.Requests.{IsRequested}

-- what a declaration of a served network orders: the network is declared as served. Its nodes and its roster are
-- declared by the lines of any network.
abbrev pub declared_by : ℕ → Declaration → Option (ℕ × Order)
declared_by g (Net b) = Some (g, order.Serve b)
declared_by g (Node u q) = None
declared_by g (Roster r) = None

-- what is asked of a served network in forms that are its own: it is declared, all its nodes are told something, or it is
-- taken back. A question is no line of a script.
abbrev pub order_by : ℕ × Ask → Option (ℕ × Order)
order_by (g, ask.Declare d) = declared_by g d
order_by (g, ask.Serve e) = None
order_by (g, ask.ForAll bytes) = Some (g, order.ForAll bytes)
order_by (g, ask.Drop) = Some (g, order.Drop)
order_by (g, ask.Left) = None
order_by (g, ask.Show i u) = None

-- a line that any network may have orders what its request asks for; each other one what it asks of a served network
abbrev pub IsOrderedBy : Option (ℕ × Request) → List Bytes → Option (ℕ × Order) → Type 0
IsOrderedBy (Some r) fields ordered = ordered ≡ Some (r.0, order.Request r.1)
IsOrderedBy None fields ordered =
    (asked : Option (ℕ × Ask)) × IsAskedOf fields asked × (ordered ≡ option_and_then order_by asked)

-- a line with these fields orders this of the network of a number, or has none of the forms
abbrev pub IsLineOrder : List Bytes → Option (ℕ × Order) → Type 0
IsLineOrder fields ordered = (r : Option (ℕ × Request)) × IsRequested fields r × IsOrderedBy r fields ordered

-- a line with these fields orders this of the network of a number
abbrev pub Orders : List Bytes → ℕ → Order → Type 0
Orders fields g o = IsLineOrder fields (Some (g, o))
