-- What lines of scripts declare of networks, until an event names them.
use Rattle.std.specs.Prelude.{◌≡◌, ◌≢◌, ℕ, ◌≤◌, true, ◌++◌, List, [], ◌∷◌, length, Option, Some, None}
use Rattle.std.specs.List.Sorted.{IsPermutation}
use Rattle.std.specs.Ordering.{nat_cmp}
use Rattle.std.specs.BTreeMap.{insert_entry, is_at}
use Rattle.std.specs.Map.{lookup, remove_entry, set_value}
use Rattle.scp_types.specs.Trees.{Slices, all_differ}
use Rattle.scp_spec.specs.Sets.{IsAscending}
use Rattle.scp_spec.specs.Networks.{Budgets, HostedNode}
use Rattle.scp_spec.specs.Rosters.{Roster, Shares}
use Rattle.scp_spec.specs.Hosts.{Config}
use Rattle.host_config.specs.Configs.{names_of}
use Rattle.host_config.specs.Faults.{first_fault, roster_tests}
use Rattle.host_config.specs.Rosters.{HasRosterOf}

-- what lines have declared of a network: its budgets, its nodes in the order of their lines, and the names and the
-- shares of its roster
pub record Outlined : Type 0 where
  pub budgets : Budgets
  pub nodes : List HostedNode
  pub roster : Option (List ℕ × Shares)

-- the networks that are declared and that no event has named since, ascending by number
abbrev pub Waiting : Type 0
Waiting = List (ℕ × Outlined)

-- ---- what lines change

-- a network that is declared, without nodes and without a roster
abbrev pub bare_outline : Budgets → Outlined
bare_outline b = record { budgets = b; nodes = []; roster = None }

-- a declared network with one more node
abbrev pub with_node : Outlined → ℕ → Slices → Outlined
with_node d u q = record d { nodes = d.nodes ++ record { name = u; slices = q } ∷ [] }

-- a declared network with a roster
abbrev pub with_roster : Outlined → List ℕ → Shares → Outlined
with_roster d names shares = record d { roster = Some (names, shares) }

-- the network of a number, if it waits
abbrev pub waiting_at : Waiting → ℕ → Option Outlined
waiting_at ws g = lookup (is_at (nat_cmp g)) ws

-- the waiting networks with one more, in the place of its number
abbrev pub waiting_with : Waiting → ℕ → Outlined → Waiting
waiting_with ws g d = insert_entry nat_cmp ws g d

-- with that one in the place of the one of its number
abbrev pub waiting_set : Waiting → ℕ → Outlined → Waiting
waiting_set ws g d = set_value (is_at (nat_cmp g)) ws d

-- the waiting networks without the one of a number
abbrev pub waiting_without : Waiting → ℕ → Waiting
waiting_without ws g = remove_entry (is_at (nat_cmp g)) ws

-- the outline of the waiting network of a number is replaced by another
abbrev pub IsRevised : ℕ → (Outlined → Outlined) → Waiting → Waiting → Type 0
IsRevised g change old new = (d : Outlined) × (waiting_at old g ≡ Some d) × (new ≡ waiting_set old g (change d))

-- ---- what becomes of them

-- the configuration takes the roster, if there is one
abbrev pub IsRosterAllowed : Option (List ℕ × Shares) → Type 0
IsRosterAllowed None = Unit {0}
IsRosterAllowed (Some r) = first_fault (roster_tests r.0 r.1) ≡ None

-- what a configuration refuses of nodes and rosters has not been declared
pub record IsSoundOutline (d : Outlined) : Type 0 where
  pub differ : all_differ (names_of d.nodes) ≡ true
  pub few_nodes : length d.nodes ≤ 256
  pub allowed : IsRosterAllowed d.roster

-- the roster is that which was declared
abbrev pub IsRosterAs : Option (List ℕ × Shares) → Option Roster → Type 0
IsRosterAs None roster = roster ≡ None
IsRosterAs (Some r) roster = HasRosterOf r.0 r.1 roster

-- what was declared has nodes and is this configuration, with the nodes ascending by name
pub record IsConfigOf (g : ℕ) (d : Outlined) (c : Config) : Type 0 where
  pub some_nodes : d.nodes ≢ []
  pub number : c.number ≡ g
  pub budgets : c.budgets ≡ d.budgets
  pub nodes : IsPermutation d.nodes c.nodes
  pub ascending : IsAscending (names_of c.nodes)
  pub roster : IsRosterAs d.roster c.roster
