-- Hashes that are kept by name.
use Rattle.std.specs.Prelude.{◌≡◌, ℕ}
use Rattle.scp_spec.specs.Leaders.{hash}
use Rattle.node_leaders.specs.declared.draws.Hashed.{Hashed}

-- the hash of a name is its own in the round, for the purpose of this tag
abbrev pub IsHashed : (slot tag round : ℕ) → Hashed → Type 0
IsHashed slot tag round h = h.hash ≡ hash slot tag round h.node
