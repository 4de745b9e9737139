-- What lines of scripts that declare change of the networks that wait.
use Rattle.std.specs.Prelude.{◌≡◌, ℕ, true, List, Some, None}
use Rattle.line_script.specs.Script.{Bytes}
use Rattle.line_request.specs.declared.request.Declaration.{Declaration}
use Rattle.line_request.specs.declared.request.Declaration.TheVariants.{Net, Node, Roster}
use Rattle.line_request.specs.declared.request.Request.TheVariants.{Declare}
use Rattle.line_request.specs.Outlines.{IsRevised, Waiting, bare_outline, waiting_at, waiting_with, with_node, with_roster}
use Rattle.line_request.specs.Naming.{Named}
use Rattle.line_request.specs.Requests.{IsRequested}
use Rattle.line_request.specs.Taking.{takes}

-- a network is declared of which none waits, or one that waits has a node more, or its roster
abbrev pub Prepares : ℕ → Declaration → Waiting → Waiting → Type 0
Prepares g (Net b) old new = (waiting_at old g ≡ None) × (new ≡ waiting_with old g (bare_outline b))
Prepares g (Node u q) old new = IsRevised g (λ d. with_node d u q) old new
Prepares g (Roster r) old new = IsRevised g (λ d. with_roster d r.names.items r.shares) old new

-- the line declares that, and it is taken
abbrev pub IsPrepared : List Bytes → Named → Waiting → Waiting → Type 0
IsPrepared fields n old new =
    (g : ℕ) × (d : Declaration) × IsRequested fields (Some (g, Declare d)) × (takes old n g d ≡ true)
    × Prepares g d old new
