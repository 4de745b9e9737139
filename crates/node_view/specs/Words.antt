-- Sets of places as words.
use Rattle.std.specs.Prelude.{◌≡◌, ℕ, ◌<◌, ◌/◌, List, length, max}
use Rattle.scp_bits.specs.Places.{bit_of}

-- words of the empty set, with a bit for each of so many places
pub record IsEmptySet (count : ℕ) (ws : List ℕ) : Type 0 where
  pub none : (i : ℕ) → bit_of ws i ≡ 0
  pub room : (i : ℕ) → i < count → i / 64 < length ws

-- the places of two sets, as far as the words of the first have room for them
pub record AreJoined (old more new : List ℕ) : Type 0 where
  pub as_many : length new ≡ length old
  pub each : (i : ℕ) → i / 64 < length old → bit_of new i ≡ max (bit_of old i) (bit_of more i)
