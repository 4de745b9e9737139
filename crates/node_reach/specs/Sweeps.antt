-- What a sweep has found, and what each of its steps adds.
use Rattle.std.specs.Prelude.{◌≡◌, ℕ, ◌+◌, not, ◌&&◌, ◌||◌, ◌==◌, List, [], length, Option, Some, None, IsTrue}
use Rattle.scp_types.specs.declared.kind.Kind.{Kind}
use Rattle.scp_types.specs.declared.kind.Kind.TheVariants.{Nomination}
use Rattle.scp_types.specs.Statements.{Sent}
use Rattle.scp_spec.specs.Sets.{Names, among, also, AreWithin, IsAscending}
use Rattle.scp_spec.specs.Satisfaction.{names}
use Rattle.scp_spec.specs.Rows.{row}

-- the names that were found, and those of them whose rows were not looked at yet
pub record Swept : Type 0 where
  pub found : List ℕ
  pub pending : List ℕ

-- the names whose rows were looked at
abbrev pub is_done : Swept → Names
is_done s u = among s.found u && not (among s.pending u)

-- the set of a single name
abbrev pub just : ℕ → Names
just x u = x == u

-- the names of a set were noted: they are found now, and what was not found before is pending
pub record AreNamesNoted (old new : Swept) (set : Names) : Type 0 where
  pub ascending : IsAscending new.found
  pub found : (u : ℕ) → among new.found u ≡ (set u || among old.found u)
  pub pending : (u : ℕ) → IsTrue (among new.pending u) → IsTrue (set u || among old.pending u)
  pub done : AreWithin (is_done new) (is_done old)
  pub counted : length new.found + length old.pending ≡ length old.found + length new.pending

-- a pending name was taken, to look at its rows
pub record IsNameTaken (old new : Swept) (u : ℕ) : Type 0 where
  pub found : new.found ≡ old.found
  pub pending : IsTrue (among old.pending u)
  pub others : AreWithin (among new.pending) (among old.pending)
  pub done : AreWithin (is_done new) (also u (is_done old))
  pub counted : length new.pending + 1 ≡ length old.pending

-- the names in a row, if there is one
abbrev pub names_in_row : Option Sent → Names
names_in_row None = among []
names_in_row (Some e) = among (names e.slices)

-- the names in the rows of a node, of either kind
abbrev pub names_in_rows_of : List Sent → ℕ → Names
names_in_rows_of table u w = names_in_row (row table u Kind.Ballot) w || names_in_row (row table u Nomination) w

-- the names of a set that are not known yet
abbrev pub unknown : List ℕ → Names → Names
unknown known set u = not (among known u) && set u
