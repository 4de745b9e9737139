-- Which networks join, of those that lines of scripts declare.
use Rattle.std.specs.Prelude.{◌≡◌, ◌⊎◌, ℕ, [], ◌∷◌, Option, Some, None}
use Rattle.scp_spec.specs.Hosts.{Config}
use Rattle.line_request.specs.Outlines.{Outlined, IsConfigOf, Waiting, waiting_at, waiting_without}

-- how a network of a configuration joins others
abbrev pub Joins : Type 0 → Type 0
Joins S = Config → S → S

-- an event names a network: if it waits, it joins and waits no more; else nothing changes
abbrev pub NetworkIsNamedAt : {S : Type 0} → Joins S → ℕ → Option Outlined → Waiting → Waiting → S → S → Type 0
NetworkIsNamedAt joins g None ws us old new = (us ≡ ws) × (new ≡ old)
NetworkIsNamedAt joins g (Some d) ws us old new =
    (us ≡ waiting_without ws g) × ((c : Config) × IsConfigOf g d c × (new ≡ joins c old))

-- a line names the network of a number, which joins if it waited
abbrev pub NetworkIsNamed : {S : Type 0} → Joins S → ℕ → Waiting → Waiting → S → S → Type 0
NetworkIsNamed joins g ws us old new = NetworkIsNamedAt joins g (waiting_at ws g) ws us old new

-- an event names a network: if it waits, it waits no more, and its configuration is this; else there is none
abbrev pub IsConfigTaken : ℕ → Option Outlined → Option Config → Waiting → Waiting → Type 0
IsConfigTaken g None named ws us = (named ≡ None) × (us ≡ ws)
IsConfigTaken g (Some d) None ws us = ⊥
IsConfigTaken g (Some d) (Some c) ws us = IsConfigOf g d c × (us ≡ waiting_without ws g)

-- a network joins, if it has nodes
abbrev pub HasJoined : {S : Type 0} → Joins S → ℕ → Outlined → S → S → Type 0
HasJoined joins g d old new = ((d.nodes ≡ []) × (new ≡ old)) ⊎ ((c : Config) × IsConfigOf g d c × (new ≡ joins c old))

-- all that wait and have nodes join, in the order of their numbers, and no others
pub data HaveJoined {S : Type 0} (joins : Joins S) : Waiting → S → S → Type 0 where
  none : {s : S} → HaveJoined joins [] s s
  next : {g : ℕ} {d : Outlined} {more : Waiting} {old now new : S} → HasJoined joins g d old now
      → HaveJoined joins more now new
      → HaveJoined joins ((g, d) ∷ more) old new
