-- Networks that are declared with less: the lines that declare one are lowered by what was drawn on its budgets, and
-- declare as much less.
use Rattle.std.specs.Prelude.{◌≡◌, ◌+◌, ◌-◌, ◌≤◌, ◌++◌, ◌∷◌, [], true, Bool, ℕ, List, length, map, IfSome, Option, Some, option_map}
use Rattle.scp_spec.specs.Hosts.{Config}
use Rattle.scp_spec.specs.Networks.{Budgets}
use Rattle.scp_spec.specs.Rosters.{Roster, Shares}
use Rattle.host_config.specs.declared.roster.Reservation.{Reservation}
use Rattle.host_network.specs.Standing.{Machine}
use Rattle.scp_types.specs.Trees.{Slices}
use Rattle.line_script.specs.Script.{AreFields, Bytes}
use Rattle.live_feed.specs.Lasting.{lowered}
use Rattle.live_feed.specs.Served.{LineReply, ServesAll}
use Rattle.live_feed.specs.Served.ServesAll.{next, none}
use Rattle.live_feed.specs.WholeLines.{given}
use Rattle.live_feed.specs.declared.answering.Deed.TheVariants as deed
use Rattle.live_feed.specs.declared.answering.Done.{Done}
use Rattle.live_feed.specs.declared.answering.Drawn.{Drawn}
use Rattle.line_request.specs.Asking.{IsAskedOf}
use Rattle.line_request.specs.Outlines.{IsConfigOf, Outlined, Waiting}
use Rattle.line_request.specs.declared.ask.Ask.TheVariants as ask
use Rattle.line_request.specs.declared.request.Declaration.{Declaration}
use Rattle.line_request.specs.declared.request.Declaration.TheVariants as declaration
use Rattle.live_host.specs.Blocks.{text_of_closing}
use Rattle.live_host.specs.Futures.{behind_numbers, moved, moved_config}
use Rattle.live_host.specs.Hosts.{IsBegun, Live, Serves, begun, new_live}
use Rattle.live_host.specs.declared.block.Closing.TheVariants as closing

-- ---- so much less is declared
abbrev pub less_budgets : Drawn → Budgets → Budgets
less_budgets d b = record b { events = b.events - d.events; bytes = b.bytes - d.bytes }

abbrev pub less_shares : Drawn → Shares → Shares
less_shares d s = record s { opens = s.opens - d.opens }

abbrev pub less_reservation : Drawn → Reservation → Reservation
less_reservation d r = record r { shares = less_shares d r.shares }

abbrev pub less_declared : Drawn → Declaration → Declaration
less_declared d (declaration.Net b) = declaration.Net (less_budgets d b)
less_declared d (declaration.Node u q) = declaration.Node u q
less_declared d (declaration.Roster r) = declaration.Roster (less_reservation d r)

-- of a network that waits
abbrev pub less_reserved : Drawn → List ℕ × Shares → List ℕ × Shares
less_reserved d r = (r.0, less_shares d r.1)

abbrev pub less_outline : Drawn → Outlined → Outlined
less_outline d o = record o { budgets = less_budgets d o.budgets; roster = option_map (less_reserved d) o.roster }

-- of one that has begun
abbrev pub less_roster : Drawn → Roster → Roster
less_roster d r = record r { shares = less_shares d r.shares }

abbrev pub less_config : Drawn → Config → Config
less_config d c = record c { budgets = less_budgets d c.budgets; roster = option_map (less_roster d) c.roster }

-- of all that wait at a host
abbrev pub less_waiting : Drawn → Waiting → Waiting
less_waiting d ws = map (λ (e : ℕ × Outlined). (e.0, less_outline d e.1)) ws

abbrev pub less_live : Drawn → Live → Live
less_live d l = record l { waiting = less_waiting d l.waiting }

-- ---- lines
-- the line asks that this be declared of the network of a number
abbrev pub AsksToDeclare : Bytes → ℕ → Declaration → Type 0
AsksToDeclare line g x = (fields : List Bytes) × AreFields line fields × IsAskedOf fields (Some (g, ask.Declare x))

-- a line that declares something declares as much less once it is lowered
abbrev pub LoweredLinesDeclareLess : Type 0
LoweredLinesDeclareLess =
    (d : Drawn) (line : Bytes) (g : ℕ) (x : Declaration) → AsksToDeclare line g x
    → AsksToDeclare (lowered d line) g (less_declared d x)

-- a line that declares a node stays as it is when it is lowered
abbrev pub NodeLinesStay : Type 0
NodeLinesStay =
    (d : Drawn) (line : Bytes) (g u : ℕ) (q : Slices) → AsksToDeclare line g (declaration.Node u q) → lowered d line ≡ line

-- no line is longer once it is lowered
abbrev pub LoweredLinesAreNoLonger : Type 0
LoweredLinesAreNoLonger = (d : Drawn) (line : Bytes) → length (lowered d line) ≤ length line

-- ---- declarations of one network
-- this was declared of the network of a number
abbrev pub declared_of : ℕ → Option Done
declared_of g = Some (record { network = g; deed = deed.Declared })

-- each of these lines, the first of which has this number, declares something of the network of a number and is taken
pub data AreDeclared (longest g : ℕ) : Live → ℕ → List Bytes → Live → Type 0 where
  none_left : {s : Live} {n : ℕ} → AreDeclared longest g s n [] s
  next_line : {s t u : Live} {n : ℕ} {line : Bytes} {more : List Bytes} (a : LineReply)
      → Serves s n (given longest line) a t → a.done ≡ declared_of g → AreDeclared longest g t (n + 1) more u
      → AreDeclared longest g s n (line ∷ more) u

-- each line of a run did that
abbrev pub AllDeclare : {longest n : ℕ} {s t : Live} {lines journal : List Bytes} {text : Bytes} → ℕ
    → ServesAll Serves longest s n lines journal text t → Type 0
AllDeclare g none = Unit {0}
AllDeclare g (next a serves others) = (a.done ≡ declared_of g) × AllDeclare g others

-- the lines of a run each of which declares something of a network are such lines one after the other
abbrev pub RunsDeclare : Type 0
RunsDeclare =
    (longest g n : ℕ) (l t : Live) (lines journal : List Bytes) (text : Bytes)
    (run : ServesAll Serves longest l n lines journal text t) → AllDeclare g run → AreDeclared longest g l n lines t

-- what is told of a line that is taken, behind its number
abbrev pub taken_block : Bytes → List Bytes
taken_block line = (text_of_closing closing.Taken ++ 10 ∷ []) ∷ []

-- lines that each declare something of one network are all kept, and this is told of them
abbrev pub DeclarationsAreServed : Type 0
DeclarationsAreServed =
    (longest g n : ℕ) (l t : Live) (lines : List Bytes) → AreDeclared longest g l n lines t
    → ServesAll Serves longest l n lines lines (behind_numbers n (map taken_block lines)) t

-- lines that declare a network declare as much less, once lowered, from any number on
abbrev pub LoweredDeclarationsDeclareLess : Type 0
LoweredDeclarationsDeclareLess =
    (d : Drawn) (longest g n k : ℕ) (l t : Live) (lines : List Bytes) → AreDeclared longest g l n lines t
    → AreDeclared longest g (less_live d l) k (map (lowered d) lines) (less_live d t)

-- a host that has only the network of a number, which waits
abbrev pub waits_alone : Bool → ℕ → Outlined → Live
waits_alone b g o = record { bytes = b; waiting = (g, o) ∷ []; running = [] }

-- lines that declare something of one network leave that network, if there was none
abbrev pub DeclarationsLeaveOne : Type 0
DeclarationsLeaveOne =
    (longest g n : ℕ) (b : Bool) (t : Live) (line : Bytes) (lines : List Bytes)
    → AreDeclared longest g (new_live b) n (line ∷ lines) t → (o : Outlined) × (t ≡ waits_alone b g o)

-- ---- configurations
-- what was declared with less has a configuration with less
abbrev pub LessIsConfigured : Type 0
LessIsConfigured =
    (d : Drawn) (g : ℕ) (o : Outlined) (c : Config) → IsConfigOf g o c → IsConfigOf g (less_outline d o) (less_config d c)

-- a network can have used up so much
pub record Covers (c : Config) (d : Drawn) : Type 0 where
  pub events : d.events ≤ c.budgets.events
  pub bytes : d.bytes ≤ c.budgets.bytes
  pub opens : IfSome c.roster (λ r. d.opens ≤ r.shares.opens)

-- what is configured with less is, with so much more, what it was
abbrev pub LessIsMovedBack : Type 0
LessIsMovedBack = (d : Drawn) (c : Config) → Covers c d → moved_config d (less_config d c) ≡ c

-- this is used up of a network without open slots
abbrev pub used_up : Config → Drawn → Machine
used_up c d = record { config = c; slots = []; events = d.events; bytes = d.bytes; opens = d.opens }

-- a network that begins with less is, with so much more, one of which so much is used up
abbrev pub BegunWithLess : Type 0
BegunWithLess = (d : Drawn) (c : Config) → Covers c d → moved d (begun (less_config d c)) ≡ used_up c d

-- a host that has only this network, which runs
abbrev pub runs_alone : Bool → ℕ → Machine → Live
runs_alone b g m = record { bytes = b; waiting = []; running = (g, m) ∷ [] }

-- an event that names a network which waits with less begins it with less
abbrev pub LessBegins : Type 0
LessBegins =
    (d : Drawn) (g : ℕ) (b : Bool) (o : Outlined) (c : Config) → IsConfigOf g o c
    → IsBegun g (waits_alone b g (less_outline d o)) true (runs_alone b g (begun (less_config d c)))
