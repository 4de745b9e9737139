-- Why a network does not join a host.
use Rattle.std.specs.Prelude.{◌≡◌, ◌⊎◌, ◌<◌, ℕ, List, [], ◌∷◌, length}
use Rattle.pool_workers.specs.NetSights.{NetSight}
use Rattle.pool_workers.specs.Nets.{NoNet, net_number}
use Rattle.pool_workers.specs.declared.not_joined.NotJoined.{NotJoined}
use Rattle.pool_workers.specs.declared.not_joined.NotJoined.TheVariants.{NumberThere, TooManyNetworks, NoMemory}

-- a network has this number
abbrev pub HasNet : List NetSight → ℕ → Type 0
HasNet [] number = ⊥
HasNet (n ∷ ns) number = (number ≡ net_number n) ⊎ HasNet ns number

-- Why a network of this number does not join these. Only one of the three can hold: its number is there; it is not, and
-- there are 4,096 networks; or neither, and it is out of memory.
abbrev pub IsWhyNotJoined : List NetSight → ℕ → NotJoined → Type 0
IsWhyNotJoined nets number NumberThere = HasNet nets number
IsWhyNotJoined nets number TooManyNetworks = NoNet nets number × (length nets ≡ 4096)
IsWhyNotJoined nets number NoMemory = NoNet nets number × (length nets < 4096)
