-- Votes that a part of a pass may change.
use Rattle.std.specs.Prelude.{◌≡◌, Bool, true, false, Option, Some, None}
use Rattle.scp_types.specs.declared.state.Votes.{Votes}

-- votes that are others than before: none if the new ones are the old ones, else the new ones
abbrev pub IsDifference : Votes → Votes → Option Votes → Type 0
IsDifference old new None = new ≡ old
IsDifference old new (Some w) = (w ≡ new) × (new ≡ old → ⊥)

-- these votes if passes end, and none if they do not
abbrev pub some_if : Bool → Votes → Option Votes
some_if true w = Some w
some_if false w = None
