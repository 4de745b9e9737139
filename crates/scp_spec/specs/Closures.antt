-- Least sets of names: what follows from one name by rules.
use Rattle.std.specs.Prelude.{ℕ, Bool, not, ◌&&◌, ◌||◌, List, ◌∷◌, flat_map, IsTrue, ◌↔◌}
use Rattle.std.specs.List.{list_all, Contains}
use Rattle.scp_spec.specs.Sets.{Names, among, within, AreWithin, every_set}

-- a rule of a closure: if all its sources are in, so is all that it gives
pub record Rule : Type 0 where
  pub sources : List ℕ
  pub gives : List ℕ

-- a set keeps a rule
abbrev pub keeps : Names → Rule → Bool
keeps set r = not (within r.sources set) || within r.gives set

-- a set contains the name and keeps each of the rules
abbrev pub is_closed : List Rule → ℕ → Names → Bool
is_closed rules v set = set v && list_all (keeps set) rules

-- the least set that contains v and keeps the rules: what is in each such set
unfoldable pub in_least : List Rule → ℕ → Names
in_least rules v u = every_set (v ∷ flat_map (λ r. r.gives) rules) (λ set. not (is_closed rules v set) || set u)

-- a name is derived from v: it is v, or a rule gives it whose sources are all derived
pub data Derived (rules : List Rule) (v : ℕ) : ℕ → Type 0 where
  start : Derived rules v v
  given : (r : Rule) {u : ℕ} → Contains rules r → ((w : ℕ) → IsTrue (among r.sources w) → Derived rules v w)
      → IsTrue (among r.gives u) → Derived rules v u

-- is_closed in words: v is in, and so is all that a rule gives whose sources are in
pub record IsClosed (rules : List Rule) (v : ℕ) (set : Names) : Type 0 where
  pub start : IsTrue (set v)
  pub each : (r : Rule) → Contains rules r → AreWithin (among r.sources) set → AreWithin (among r.gives) set

-- it is closed, and lies in each set that is
pub record IsLeastClosed (rules : List Rule) (v : ℕ) (set : Names) : Type 0 where
  pub closed : IsClosed rules v set
  pub least : (other : Names) → IsClosed rules v other → AreWithin set other

-- the computed closure is the least of all closed sets
abbrev pub ClosuresAreLeast : Type 0
ClosuresAreLeast = (rules : List Rule) (v : ℕ) → IsLeastClosed rules v (in_least rules v)

-- the members of the computed set are those names that are derived
abbrev pub ClosuresAreDerived : Type 0
ClosuresAreDerived = (rules : List Rule) (v u : ℕ) → IsTrue (in_least rules v u) ↔ Derived rules v u
