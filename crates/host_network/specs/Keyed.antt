-- What stands in a list at a key, and where.
use Rattle.std.specs.Prelude.{◌≡◌, ℕ, ◌==◌, ◌<◌, ◌≤◌, List, [], ◌∷◌, length, insert, map, Option, Some, None, Result, Ok, Err, if◌then◌else◌}
use Rattle.scp_spec.specs.Sets.{IsAscending}
use Rattle.host_config.specs.Configs.{index_in}

-- the value at the first of a key
abbrev pub at_key : {X Y : Type 0} → (X → ℕ) → (X → Y) → List X → ℕ → Option Y
at_key key val [] u = None
at_key key val (x ∷ xs) u = if key x == u then Some (val x) else at_key key val xs u

-- the place of a key in a list; or nothing has it, and this is where one would keep the keys ascending
abbrev pub IsKeyPlace : {X : Type 0} → (X → ℕ) → List X → ℕ → Result ℕ ℕ → Type 0
IsKeyPlace key xs u (Ok at) = (index_in (map key xs) u ≡ Some at) × (at < length xs)
IsKeyPlace key xs u (Err at) =
    (index_in (map key xs) u ≡ None) × (at ≤ length xs) × IsAscending (insert (map key xs) at u)
