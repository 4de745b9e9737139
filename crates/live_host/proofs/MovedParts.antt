-- The parts of a network that change if so much more is declared and used up.
use Rattle.std.specs.Prelude.{◌≡◌, ◌-◌, ℕ, Option}
use Rattle.std.proofs.Common.{◌∙◌, ap}
use Rattle.scp_spec.specs.Networks.{Budgets}
use Rattle.scp_spec.specs.Rosters.{Roster}
use Rattle.host_network.specs.Standing.{Machine}
use Rattle.live_feed.specs.declared.answering.Drawn.{Drawn}

-- ---- so much less
abbrev pub lowered_budgets : Drawn → Budgets → Budgets
lowered_budgets d b = record b { events = b.events - d.events; bytes = b.bytes - d.bytes }

-- the roster with so many openings and closings
abbrev pub roster_with : Roster → ℕ → Roster
roster_with r opens = record r { shares = record r.shares { opens = opens } }

abbrev pub lowered_roster : Drawn → Roster → Roster
lowered_roster d r = roster_with r (r.shares.opens - d.opens)

-- ---- the same parts
-- the machine with these parts
abbrev pub machine_with : Machine → Budgets → Option Roster → ℕ → ℕ → ℕ → Machine
machine_with m b r events bytes opens = record {
  config = record m.config { budgets = b; roster = r };
  slots = m.slots;
  events = events;
  bytes = bytes;
  opens = opens;
}

pub same-budgets : (a b : Budgets) → a.events ≡ b.events → a.bytes ≡ b.bytes → a.slots ≡ b.slots → a ≡ b
same-budgets a b events bytes slots =
    ap (λ n. record a { events = n }) events ∙ ap (λ n. record a { events = b.events; bytes = n }) bytes
    ∙ ap (λ n. record { events = b.events; bytes = b.bytes; slots = n }) slots

pub same-machine : (m : Machine) (b c : Budgets) (r s : Option Roster) (events bytes opens events' bytes' opens' : ℕ)
    → b ≡ c → r ≡ s → events ≡ events' → bytes ≡ bytes' → opens ≡ opens'
    → machine_with m b r events bytes opens ≡ machine_with m c s events' bytes' opens'
same-machine m b c r s events bytes opens events' bytes' opens' budgets roster more-events more-bytes more-opens =
    ap (λ x. machine_with m x r events bytes opens) budgets ∙ ap (λ x. machine_with m c x events bytes opens) roster
    ∙ ap (λ n. machine_with m c s n bytes opens) more-events ∙ ap (λ n. machine_with m c s events' n opens) more-bytes
    ∙ ap (machine_with m c s events' bytes') more-opens
