-- Places that move: from those among some nodes to those of the same nodes among others.
use Rattle.std.specs.Prelude.{◌≡◌, ℕ, ◌<◌, ◌≤◌, ◌^◌, List, IsTrue, get_or, length}
use Rattle.scp_spec.specs.Sets.{IsAscending, among}
use Rattle.scp_bits.specs.Places.{bit_of, Compiled}
use Rattle.scp_bits.specs.Met.{has_needed}

-- one set of places is the other before it moved: a place that moves is in it exactly if the one to which it moves is
-- in the other, and no other place is in it
pub record IsBefore (places ws vs : List ℕ) : Type 0 where
  pub within : (i : ℕ) → i < length places → bit_of ws i ≡ bit_of vs (get_or places i 0)
  pub beyond : (i : ℕ) → length places ≤ i → bit_of ws i ≡ 0
  pub short : length ws ≤ 2 ^ 58

-- a compiled set whose places moved: a set of places meets it exactly if the set before it moved meets the one before
abbrev pub IsMoved : List ℕ → Compiled → Compiled → Type 0
IsMoved places old new = (ws vs : List ℕ) → IsBefore places ws vs → has_needed new vs ≡ has_needed old ws

-- the nodes of the one list stand at these places of the other, as far as they are in it
pub record AreMoved (us vs places : List ℕ) : Type 0 where
  pub before : IsAscending us
  pub now : IsAscending vs
  pub counted : length places ≡ length us
  pub few : length us < 2 ^ 64
  pub stands : (i : ℕ) → i < length us → IsTrue (among vs (get_or us i 0))
      → (get_or places i 0 < length vs) × (get_or vs (get_or places i 0) 0 ≡ get_or us i 0)
