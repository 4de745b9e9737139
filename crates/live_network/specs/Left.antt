-- What is left of the budgets of a network, and of the openings and closings of its roster.
use Rattle.std.specs.Prelude.{◌++◌, ◌∷◌, ◌-◌, [], ℕ, Option, Some, None, codes, option_map}
use Rattle.std.specs.Fmt.{decimal}
use Rattle.scp_spec.specs.Hosts.{Config}
use Rattle.host_network.specs.declared.network.Used.{Used}
use Rattle.line_request.specs.Outlines.{Outlined}
use Rattle.line_script.specs.Script.{Bytes}
use Rattle.live_network.specs.declared.left.Left.{Left}

-- what is left of budgets: what is configured, less what is used up; no openings and closings, if there is no roster
abbrev pub left_of : Config → Used → Left
left_of c used = record {
  events = c.budgets.events - used.events;
  bytes = c.budgets.bytes - used.bytes;
  slots = c.budgets.slots - used.slots;
  opens = option_map (λ r. r.shares.opens - used.opens) c.roster;
}

-- what is left of the budgets of a network that waits: all that has been declared
abbrev pub all_left : Outlined → Left
all_left d = record {
  events = d.budgets.events;
  bytes = d.budgets.bytes;
  slots = d.budgets.slots;
  opens = option_map (λ r. r.1.opens) d.roster;
}

-- a number of openings and closings, or `-` (45) if there is none
abbrev pub text_of_opens : Option ℕ → Bytes
text_of_opens None = 45 ∷ []
text_of_opens (Some n) = decimal n

-- The line of what is left, with its line feed (10). It has the number of the line that is answered and that of the
-- network, with a space (32) between. Then comes each number behind its word.
abbrev pub left_line : ℕ → ℕ → Left → Bytes
left_line n g l =
    decimal n
    ++ 32 ∷ (decimal g
    ++ (codes " events " ++ (decimal l.events
    ++ (codes " bytes " ++ (decimal l.bytes
    ++ (codes " slots " ++ (decimal l.slots ++ (codes " opens " ++ (text_of_opens l.opens ++ 10 ∷ [])))))))))
