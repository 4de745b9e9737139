-- What is declared with less is configured with less, and with so much more it is what it was.
use Rattle.std.specs.Prelude.{◌≡◌, ◌+◌, ◌-◌, ◌≤◌, ℕ, IfSome, List, Option, Some, None, option_map}
use Rattle.std.proofs.Common.{◌∙◌, refl, ap, arith}
use Rattle.scp_spec.specs.Hosts.{Config}
use Rattle.scp_spec.specs.Networks.{Budgets}
use Rattle.scp_spec.specs.Rosters.{Roster, Shares}
use Rattle.live_feed.specs.declared.answering.Drawn.{Drawn}
use Rattle.line_request.specs.Outlines.{IsRosterAs}
use Rattle.live_host.specs.Futures.{moved_budgets, moved_roster}
use Rattle.live_host.specs.Hosts.{begun}
use Rattle.live_host.specs.Lowering.{BegunWithLess, LessIsConfigured, LessIsMovedBack, less_budgets, less_reserved, less_roster, less_shares}
use Rattle.live_host.proofs.MovedParts.{roster_with, same-budgets, same-machine}

less-rostered : (d : Drawn) (r : Option (List ℕ × Shares)) (roster : Option Roster) → IsRosterAs r roster
    → IsRosterAs (option_map (less_reserved d) r) (option_map (less_roster d) roster)
less-rostered d None roster of = ap (option_map (less_roster d)) of
less-rostered d (Some r) None of = absurd of
less-rostered d (Some r) (Some roster) of = record {
  names = of.names;
  ascending = of.ascending;
  reserved = ap (less_shares d) of.reserved;
}

pub less_is_configured : LessIsConfigured
less_is_configured d g o c of = record {
  some_nodes = of.some_nodes;
  number = of.number;
  budgets = ap (less_budgets d) of.budgets;
  nodes = of.nodes;
  ascending = of.ascending;
  roster = less-rostered d o.roster c.roster of.roster;
}

-- ---- with so much more
less-more : (n d : ℕ) → d ≤ n → (n - d) + d ≡ n
less-more n d covers = omega arith

budgets-back : (d : Drawn) (b : Budgets) → d.events ≤ b.events → d.bytes ≤ b.bytes → moved_budgets d (less_budgets d b) ≡ b
budgets-back d b events bytes =
    same-budgets (moved_budgets d (less_budgets d b)) b (less-more b.events d.events events)
    (less-more b.bytes d.bytes bytes) refl

roster-back : (d : Drawn) (r : Option Roster) → IfSome r (λ roster. d.opens ≤ roster.shares.opens)
    → option_map (moved_roster d) (option_map (less_roster d) r) ≡ r
roster-back d None covers = refl
roster-back d (Some r) covers = ap (λ n. Some (roster_with r n)) (less-more r.shares.opens d.opens covers)

-- the configuration with these parts
abbrev config_with : Config → Budgets → Option Roster → Config
config_with c b r = record c { budgets = b; roster = r }

pub less_is_moved_back : LessIsMovedBack
less_is_moved_back d c covers =
    ap (λ b. config_with c b (option_map (moved_roster d) (option_map (less_roster d) c.roster)))
    (budgets-back d c.budgets covers.events covers.bytes)
    ∙ ap (config_with c c.budgets) (roster-back d c.roster covers.opens)

more-than-none : (n : ℕ) → 0 + n ≡ n
more-than-none n = omega arith

pub begun_with_less : BegunWithLess
begun_with_less d c covers =
    same-machine (begun c) (moved_budgets d (less_budgets d c.budgets)) c.budgets
    (option_map (moved_roster d) (option_map (less_roster d) c.roster)) c.roster _ _ _ _ _ _
    (budgets-back d c.budgets covers.events covers.bytes) (roster-back d c.roster covers.opens) (more-than-none d.events)
    (more-than-none d.bytes) (more-than-none d.opens)
