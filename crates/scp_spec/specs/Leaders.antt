-- The leader of a round of nomination (after the Stellar Consensus Protocol draft; the hash is this host's profile).
use Rattle.std.specs.Prelude.{ℕ, zero, suc, ◌*◌, ◌^◌, ◌/◌, ◌%◌, Bool, false, ◌&&◌, ◌||◌, ◌==◌, nat_lt, List, [], ◌∷◌, ◌++◌, Option, Some, None, filter, take, if◌then◌else◌}
use Rattle.std.specs.Int.{w64, from_be_bytes}
use Rattle.sha2.specs.Sha256.{sha256}
use Rattle.scp_types.specs.Trees.{Slices}
use Rattle.scp_spec.specs.Satisfaction.{names}
use Rattle.scp_spec.specs.Weights.{Fraction, weight}

-- a number in `width` bytes, big-endian; what does not fit is cut off
unfoldable pub in_bytes : ℕ → ℕ → List ℕ
in_bytes zero n = []
in_bytes (suc width) n = in_bytes width (n / 256) ++ (n % 256) ∷ []

-- slot, tag, round and name: 45 bytes
unfoldable pub preimage : ℕ → ℕ → ℕ → ℕ → List ℕ
preimage slot tag round u = in_bytes 8 slot ++ in_bytes 1 tag ++ in_bytes 4 round ++ in_bytes 32 u

-- the first eight bytes of the SHA-256 digest of slot, tag, round and name, as a big-endian number
unfoldable pub hash : ℕ → ℕ → ℕ → ℕ → ℕ
hash slot tag round u = from_be_bytes w64 (take 8 (sha256 (preimage slot tag round u)))

-- a name is near if its first hash, as a part of 2^64, is below its weight; without a weight it is not
abbrev pub is_near : Option Fraction → ℕ → Bool
is_near None h = false
is_near (Some f) h = nat_lt (h * f.denominator) (f.numerator * 2 ^ 64)

-- the neighbours of a node in a round: itself, and the named nodes that are near
unfoldable pub neighbours : ℕ → ℕ → ℕ → Slices → List ℕ
neighbours slot round own configured =
    own ∷ filter (λ u. is_near (weight configured u) (hash slot 1 round u)) (names configured)

-- the first name beats the second: its priority (the second hash) is greater or, at a tie, the name is
abbrev pub beats : ℕ → ℕ → ℕ → ℕ → Bool
beats slot round u w =
    nat_lt (hash slot 2 round w) (hash slot 2 round u) || ((hash slot 2 round u == hash slot 2 round w) && nat_lt w u)

-- the best of these and of the one that is there
unfoldable pub best : (ℕ → ℕ → Bool) → ℕ → List ℕ → ℕ
best beats u [] = u
best beats u (w ∷ ws) = best beats (if beats w u then w else u) ws

-- the leader of a round: the neighbour of the highest priority
unfoldable pub leader : ℕ → ℕ → ℕ → Slices → ℕ
leader slot round own configured = best (beats slot round) own (neighbours slot round own configured)
