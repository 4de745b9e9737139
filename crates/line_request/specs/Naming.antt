-- Which networks events of a script have named.
use Rattle.std.specs.Prelude.{◌≡◌, ◌+◌, ℕ, Bool, false, length, List, [], Option, Some, None, if◌then◌else◌}
use Rattle.std.specs.List.{list_any}
use Rattle.std.specs.Ordering.{nat_cmp}
use Rattle.std.specs.BTreeMap.{is_at}
use Rattle.std.specs.BTreeSet.{insert_key}
use Rattle.line_request.specs.Outlines.{Outlined}

-- The numbers that an event or a line that settles has named, and those of them whose network was declared by then.
-- Then the numbers whose network was declared as served. Each list is ascending.
pub record Named : Type 0 where
  pub numbers : List ℕ
  pub running : List ℕ
  pub served : List ℕ

-- no number is named, as before the first line
abbrev pub new_named : Named
new_named = record { numbers = []; running = []; served = [] }

-- a number is among these
abbrev pub is_in : List ℕ → ℕ → Bool
is_in us g = list_any (is_at (nat_cmp g)) us

-- the numbers with one more, in its place, unless it is there
abbrev pub with_number : List ℕ → ℕ → List ℕ
with_number us g = insert_key nat_cmp us g

-- the number is named, of which no network waits, or this one
abbrev pub named_with : ℕ → Option Outlined → Named → Named
named_with g None n = record n { numbers = with_number n.numbers g }
named_with g (Some d) n = record n { numbers = with_number n.numbers g; running = with_number n.running g }

-- the network of a number is declared as served
abbrev pub served_with : ℕ → Named → Named
served_with g n = record n { served = with_number n.served g }

-- these are the same numbers but for one, and one less if that was among them
pub record IsWithout (g : ℕ) (us vs : List ℕ) : Type 0 where
  pub gone : is_in vs g ≡ false
  pub others : (j : ℕ) → is_at (nat_cmp g) j ≡ false → is_in vs j ≡ is_in us j
  pub count : length vs + (if is_in us g then 1 else 0) ≡ length us

-- the network of a number is taken back: no line has named the number, and none has declared its network as served
pub record IsForgotten (g : ℕ) (old new : Named) : Type 0 where
  pub numbers : IsWithout g old.numbers new.numbers
  pub running : IsWithout g old.running new.running
  pub served : IsWithout g old.served new.served
