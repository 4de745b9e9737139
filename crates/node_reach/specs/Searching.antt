-- A search for the nodes that a node reaches, among known nodes and others.
use Rattle.std.specs.Prelude.{◌≡◌, ◌≢◌, ℕ, ◌+◌, ◌<◌, ◌==◌, Bool, false, not, ◌&&◌, ◌||◌, List, [], ◌∷◌, get_or, length, map, Option, None, if◌then◌else◌, IsTrue, option_map}
use Rattle.scp_types.specs.declared.kind.Kind.{Kind}
use Rattle.scp_types.specs.declared.kind.Kind.TheVariants.{Nomination}
use Rattle.scp_types.specs.Statements.{Sent}
use Rattle.scp_spec.specs.Rows.{row}
use Rattle.scp_spec.specs.Sets.{Names, among, also, AreApart, AreWithin, IsAscending}
use Rattle.node_table.specs.Places.{place_of_row}
use Rattle.node_table.specs.declared.rows.SenderRows.{SenderRows}
use Rattle.node_reach.specs.declared.search.KnownNodes.{KnownNodes}
use Rattle.node_reach.specs.declared.search.Search.{Search}
use Rattle.node_reach.specs.Sweeps.{Swept}

-- the rows of a kind that these nodes have, but for one of them, stand in a table at these places
abbrev pub ArePlacesBut : ℕ → List Sent → Kind → List ℕ → List (Option ℕ) → Type 0
ArePlacesBut sender table kind nodes places =
    (i : ℕ) → i < length nodes → get_or nodes i 0 ≢ sender
    → get_or places i None ≡ place_of_row table (get_or nodes i 0) kind

-- known nodes ascend, and their rows stand at these places, but for those of one of them
pub record AreKnown (table : List Sent) (k : KnownNodes) : Type 0 where
  pub ascending : IsAscending k.nodes.now
  pub ballots : ArePlacesBut k.sender.now table Kind.Ballot k.nodes.now k.ballots.now
  pub nominations : ArePlacesBut k.sender.now table Nomination k.nodes.now k.nominations.now

-- the nodes at the places that have a mark
abbrev pub has_mark : List ℕ → List Bool → Names
has_mark [] bs u = false
has_mark (x ∷ xs) [] u = false
has_mark (x ∷ xs) (b ∷ bs) u = (b && x == u) || has_mark xs bs u

-- the nodes at the places that have a mark, as a list
abbrev pub with_marks : List ℕ → List Bool → List ℕ
with_marks [] bs = []
with_marks (x ∷ xs) [] = []
with_marks (x ∷ xs) (b ∷ bs) = if b then x ∷ with_marks xs bs else with_marks xs bs

-- how many places have none
abbrev pub count_unmarked : List Bool → ℕ
count_unmarked [] = 0
count_unmarked (b ∷ bs) = (if b then 0 else 1) + count_unmarked bs

-- the nodes that stand at these places
abbrev pub at_places : List ℕ → List ℕ → Names
at_places nodes places u = among (map (λ i. get_or nodes i 0) places) u

-- the nodes that a search has found
abbrev pub found_in : Search → Names
found_in s u = has_mark s.known.nodes.now s.marks.items u || among s.others.found u

-- the nodes that a search has found and whose rows it has not looked at
abbrev pub pending_in : Search → Names
pending_in s u = at_places s.known.nodes.now s.places.items u || among s.others.pending u

abbrev pub done_in : Search → Names
done_in s u = found_in s u && not (pending_in s u)

-- a mark or none for each known node, none of which is among the others; what is pending are places of known nodes, and
-- others that were found
pub record IsSearchOf (k : KnownNodes) (marks : List Bool) (pending : List ℕ) (others : Swept) : Type 0 where
  pub known : IsAscending k.nodes.now
  pub sized : length marks ≡ length k.nodes.now
  pub places : (i : ℕ) → IsTrue (among pending i) → i < length k.nodes.now
  pub ascending : IsAscending others.found
  pub apart : AreApart (among others.found) (among k.nodes.now)
  pub within : AreWithin (among others.pending) (among others.found)

-- a search is sound: a mark or none for each known node, none of which is among the others, and pending ones are found
abbrev pub IsSearch : Search → Type 0
IsSearch s = IsSearchOf s.known s.marks.items s.places.items s.others

-- a search has found a set: what of it was not found before is pending
pub record Finds (old new : Search) (set : Names) : Type 0 where
  pub known : new.known ≡ old.known
  pub search : IsSearch new
  pub found : (u : ℕ) → found_in new u ≡ (set u || found_in old u)
  pub pending : (u : ℕ) → IsTrue (pending_in new u) → IsTrue (set u || pending_in old u)
  pub done : AreWithin (done_in new) (done_in old)
  pub marks : count_unmarked new.marks.items + length new.places.items
      ≡ count_unmarked old.marks.items + length old.places.items
  pub counted : length new.others.found + length old.others.pending
      ≡ length old.others.found + length new.others.pending

-- a pending node was taken, to look at its rows
pub record IsTakenFrom (old new : Search) (u : ℕ) : Type 0 where
  pub known : new.known ≡ old.known
  pub search : IsSearch new
  pub found : (w : ℕ) → found_in new w ≡ found_in old w
  pub pending : IsTrue (pending_in old u)
  pub others : AreWithin (pending_in new) (pending_in old)
  pub done : AreWithin (done_in new) (also u (done_in old))
  pub same : new.others.found ≡ old.others.found
  pub counted : count_unmarked new.marks.items + length new.places.items + length new.others.pending + 1
      ≡ count_unmarked old.marks.items + length old.places.items + length old.others.pending

-- these are the rows of a node
pub record AreRowsOf (table : List Sent) (u : ℕ) (rows : SenderRows) : Type 0 where
  pub nomination : option_map (λ r. r.now) rows.nomination ≡ row table u Nomination
  pub ballot : option_map (λ r. r.now) rows.ballot ≡ row table u Kind.Ballot

-- a search took a pending node, with its rows
pub record IsTakenWith (table : List Sent) (old new : Search) (rows : SenderRows) : Type 0 where
  pub node : ℕ
  pub taken : IsTakenFrom old new node
  pub theirs : AreRowsOf table node rows

-- a search is over: nothing is pending, and what was found stays
pub record IsOver (old new : Search) : Type 0 where
  pub over : (u : ℕ) → pending_in old u ≡ false
  pub search : IsSearch new
  pub found : (u : ℕ) → found_in new u ≡ found_in old u
