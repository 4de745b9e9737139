-- Which declarations are taken: a line that makes one of the others is bad.
use Rattle.std.specs.Prelude.{◌==◌, ◌&&◌, ◌||◌, ◌+◌, not, ℕ, Bool, false, nat_lt, is_some, List, length, Option, Some, None}
use Rattle.std.specs.List.{list_any}
use Rattle.scp_spec.specs.Rosters.{Shares}
use Rattle.host_config.specs.Faults.{first_fault, roster_tests}
use Rattle.line_request.specs.declared.request.Declaration.{Declaration}
use Rattle.line_request.specs.declared.request.Declaration.TheVariants.{Net, Node, Roster}
use Rattle.line_request.specs.Outlines.{Outlined, Waiting, waiting_at}
use Rattle.line_request.specs.Naming.{Named, is_in}

-- a line has declared the network of the number: it waits for an event that names it, or one has named it since
abbrev pub is_declared : Waiting → Named → ℕ → Bool
is_declared ws n g = is_some (waiting_at ws g) || is_in n.running g

-- how many networks lines have declared
abbrev pub declared_count : Waiting → Named → ℕ
declared_count ws n = length ws + length n.running

-- a network may have a node of this name: it is declared, it has none of that name, and fewer than 256
abbrev pub takes_node : Option Outlined → ℕ → Bool
takes_node None u = false
takes_node (Some d) u = nat_lt (length d.nodes) 256 && not (list_any (λ hosted. hosted.name == u) d.nodes)

-- the configuration takes the roster: no name stands twice, there are at most 1,024, and no share is above 2^40
abbrev pub is_roster : List ℕ → Shares → Bool
is_roster names shares = not (is_some (first_fault (roster_tests names shares)))

-- a network may have this roster: it is declared, and has none
abbrev pub takes_roster : Option Outlined → List ℕ → Shares → Bool
takes_roster None names shares = false
takes_roster (Some d) names shares = not (is_some d.roster) && is_roster names shares

-- A declaration of the network of a number is taken. A network is taken if it is not declared, and fewer than 4,096
-- are. A node or a roster is taken of a network that waits and may have it. No event or line that settles may have
-- named its number, not even before the network was declared.
abbrev pub takes : Waiting → Named → ℕ → Declaration → Bool
takes ws n g (Net b) = not (is_declared ws n g) && nat_lt (declared_count ws n) 4096
takes ws n g (Node u q) = not (is_in n.numbers g) && takes_node (waiting_at ws g) u
takes ws n g (Roster r) = not (is_in n.numbers g) && takes_roster (waiting_at ws g) r.names.items r.shares
