-- Where in a list of configurations the networks stand.
use Rattle.std.specs.Prelude.{◌≡◌, ℕ, suc, ◌==◌, List, [], ◌∷◌, Option, Some, None, option_map, if◌then◌else◌}
use Rattle.std.specs.Ordering.{nat_cmp}
use Rattle.std.specs.BTreeMap.{BTreeMap, get}
use Rattle.scp_spec.specs.Hosts.{Config}

-- the place of the first configuration of a number
abbrev pub config_place : List Config → ℕ → Option ℕ
config_place [] g = None
config_place (c ∷ cs) g = if c.number == g then Some 0 else option_map suc (config_place cs g)

-- the map has the place of each configuration by its number, and none for other numbers
pub record AreConfigsIndexed (configs : List Config) (places : BTreeMap ℕ ℕ) : Type 0 where
  pub at : (g : ℕ) → get nat_cmp places g ≡ config_place configs g
