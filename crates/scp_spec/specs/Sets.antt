-- Sets of names: a set is the test of what is in it. "Some set" and "every set" range over the sets of finitely many
-- names.
use Rattle.std.specs.Prelude.{◌<◌, ℕ, Bool, false, not, ◌&&◌, ◌||◌, ◌==◌, List, [], ◌∷◌, AllPairs, IsTrue, IsFalse}
use Rattle.std.specs.List.{list_all, list_any}

-- a set of names
abbrev pub Names : Type 0
Names = ℕ → Bool

-- the empty set
abbrev pub none : Names
none u = false

-- a set with one name more
abbrev pub also : ℕ → Names → Names
also x set u = (x == u) || set u

-- the names of a list
abbrev pub among : List ℕ → Names
among xs u = list_any (λ x. x == u) xs

-- what two sets have in common
abbrev pub both : Names → Names → Names
both one other u = one u && other u

-- each name of the list is in the set
abbrev pub within : List ℕ → Names → Bool
within xs set = list_all set xs

-- each name of one set is in the other
abbrev pub AreWithin : Names → Names → Type 0
AreWithin one other = (u : ℕ) → IsTrue (one u) → IsTrue (other u)

-- no name is in both
abbrev pub AreApart : Names → Names → Type 0
AreApart one other = (u : ℕ) → IsTrue (one u) → IsFalse (other u)

-- a set as a list: in order, none twice
abbrev pub IsAscending : List ℕ → Type 0
IsAscending xs = AllPairs (λ x y. x < y) xs

-- some set of these names passes the test
unfoldable pub some_set : List ℕ → (Names → Bool) → Bool
some_set [] test = test none
some_set (x ∷ xs) test = some_set xs test || (not (among xs x) && some_set xs (λ set. test (also x set)))

-- every set of these names passes the test
unfoldable pub every_set : List ℕ → (Names → Bool) → Bool
every_set xs test = not (some_set xs (λ set. not (test set)))
