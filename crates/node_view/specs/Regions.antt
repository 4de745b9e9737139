-- The nodes that a node reaches, and slices compiled against them.
use Rattle.std.specs.Arc.{arc_slice_items}
use Rattle.std.specs.Prelude.{◌≡◌, ◌≢◌, ℕ, ◌<◌, IsTrue, List, Option, Some, None, get_or, length, map, true, false, ⊤}
use Rattle.scp_types.specs.Trees.{Slices}
use Rattle.scp_types.specs.Statements.{Sent, kind_of}
use Rattle.scp_types.specs.declared.kind.Kind.{Kind}
use Rattle.scp_types.specs.declared.kind.Kind.TheVariants.{Nomination}
use Rattle.scp_spec.specs.Backing.{slices_by}
use Rattle.scp_spec.specs.Reach.{IsReach}
use Rattle.scp_spec.specs.Rows.{with_row}
use Rattle.scp_spec.specs.Sets.{IsAscending, among}
use Rattle.node_reach.specs.Searching.{ArePlacesBut}
use Rattle.node_reach.specs.Widening.{IsNarrow}
use Rattle.scp_bits.specs.Met.{IsCompiled}
use Rattle.scp_bits.specs.Places.{Numbered}
use Rattle.scp_bits.specs.Searching.{AreCompiled}
use Rattle.node_view.specs.Forms.{AreBelow, AreFormsBut, IsFormer, MayJoin, NameWithinBut}
use Rattle.node_table.specs.Places.{place_of_row}
use Rattle.node_view.specs.declared.changing.Extent.{Extent}
use Rattle.node_view.specs.declared.changing.Extent.TheVariants.{Wider, Other}
use Rattle.node_view.specs.declared.region.Change.{Change}
use Rattle.node_view.specs.declared.region.Change.TheVariants.{Sets, Reach}
use Rattle.node_view.specs.declared.region.RegionEntry.{RegionEntry}
use Rattle.node_view.specs.declared.region.FormerRegion.{FormerRegion}
use Rattle.node_view.specs.declared.region.KindPlaces.{KindPlaces}
use Rattle.node_view.specs.declared.region.Placed.{Placed}
use Rattle.node_view.specs.declared.region.Region.{Region}
use Rattle.node_view.specs.declared.region.ToldSame.{ToldSame}
use Rattle.node_view.specs.declared.standing.Standing.{Standing}

-- where the rows of a kind that these nodes have stand in a table, in the order of the nodes
abbrev pub row_places : List Sent → Kind → List ℕ → List (Option ℕ)
row_places table kind nodes = map (λ u. place_of_row table u kind) nodes

-- the places of rows of a kind, as they are found
abbrev pub row_places_of_kind : Kind → KindPlaces → List (Option ℕ)
row_places_of_kind Nomination p = p.nominations.items
row_places_of_kind Kind.Ballot p = p.ballots.items

-- the places of both kinds are those of the rows that these nodes have in a table
pub record AreRowPlaces (table : List Sent) (nodes : List ℕ) (p : KindPlaces) : Type 0 where
  pub ballots : p.ballots.items ≡ row_places table Kind.Ballot nodes
  pub nominations : p.nominations.items ≡ row_places table Nomination nodes

-- the nodes that a node reaches, and the places of their rows
pub record IsPlaced (own : ℕ) (configured : Slices) (table : List Sent) (p : Placed) : Type 0 where
  pub reach : IsReach own configured table p.nodes.items
  pub rows : AreRowPlaces table p.nodes.items p.rows

-- the places of rows of a kind that a region keeps
abbrev pub rows_of : Kind → Region → List (Option ℕ)
rows_of Nomination r = r.nomination_rows.items
rows_of Kind.Ballot r = r.ballot_rows.items

-- the forms of a kind that a region keeps
abbrev pub forms_of : Kind → Region → List (Option Numbered)
forms_of Nomination r = r.nominations.items
forms_of Kind.Ballot r = r.ballots.items

-- where a node stands among these nodes; nowhere, if it is none of them
abbrev pub IsFoundAmong : List ℕ → ℕ → Option Standing → Type 0
IsFoundAmong nodes u None = among nodes u ≡ false
IsFoundAmong nodes u (Some s) = (s.node < length nodes) × (get_or nodes s.node 0 ≡ u)

-- the kind that is not this one
abbrev pub other_kind : Kind → Kind
other_kind Nomination = Kind.Ballot
other_kind Kind.Ballot = Nomination

-- the node at a place has, by its row of a kind, the envelope's slices
abbrev pub HasSlicesAt : ℕ → Slices → List Sent → Sent → Region → Kind → ℕ → Type 0
HasSlicesAt own configured table e r k n =
    (n < length (arc_slice_items r.nodes)) × (slices_by own configured table k (get_or (arc_slice_items r.nodes) n 0) ≡ Some e.slices)

-- what is told is so: of the row of the envelope's kind that was set last, and of the row of the other kind that the
-- node at a place has
pub record AreToldSame (own : ℕ) (configured : Slices) (table : List Sent) (e : Sent) (r : Region) (n : ℕ) (t : ToldSame)
    : Type 0 where
  pub latest : IsTrue t.latest → HasSlicesAt own configured table e r (kind_of e.body) r.latest
  pub other : IsTrue t.other → HasSlicesAt own configured table e r (other_kind (kind_of e.body)) n

-- what the configuration and the table give: the reach, the node's own place, what blocks it, and of all that are
-- reached the slices, in forms whose numbers are below those to come, and where their rows stand
pub record IsRegion (own : ℕ) (configured : Slices) (table : List Sent) (r : Region) : Type 0 where
  pub reach : IsReach own configured table (arc_slice_items r.nodes)
  pub within : r.place < length (arc_slice_items r.nodes)
  pub itself : get_or (arc_slice_items r.nodes) r.place 0 ≡ own
  pub blocking : IsCompiled true (arc_slice_items r.nodes) configured r.blocking
  pub ballots : AreCompiled (arc_slice_items r.nodes) (slices_by own configured table Kind.Ballot) r.ballots.items
  pub nominations : AreCompiled (arc_slice_items r.nodes) (slices_by own configured table Nomination) r.nominations.items
  pub ballot_rows : r.ballot_rows.items ≡ row_places table Kind.Ballot (arc_slice_items r.nodes)
  pub nomination_rows : r.nomination_rows.items ≡ row_places table Nomination (arc_slice_items r.nodes)
  pub ballot_numbers : AreBelow r.numbers r.ballots.items
  pub nomination_numbers : AreBelow r.numbers r.nominations.items

-- the same region, in other memory
pub record IsCopy (old new : Region) : Type 0 where
  pub nodes : arc_slice_items new.nodes ≡ arc_slice_items old.nodes
  pub place : new.place ≡ old.place
  pub blocking : new.blocking ≡ old.blocking
  pub ballots : new.ballots.items ≡ old.ballots.items
  pub nominations : new.nominations.items ≡ old.nominations.items
  pub ballot_rows : new.ballot_rows.items ≡ old.ballot_rows.items
  pub nomination_rows : new.nomination_rows.items ≡ old.nomination_rows.items
  pub numbers : new.numbers ≡ old.numbers

-- what a region has to have once a row of another node came that leaves the reach as it is: the row's slices, compiled,
-- for its kind and at its sender's place, and where the row then stands
pub record IsEntry (own : ℕ) (configured : Slices) (table : List Sent) (e : Sent) (r : Region) (x : RegionEntry)
    : Type 0 where
  pub reach : IsReach own configured table (arc_slice_items r.nodes) → IsReach own configured (with_row e table) (arc_slice_items r.nodes)
  pub within : x.place < length (arc_slice_items r.nodes)
  pub sender : get_or (arc_slice_items r.nodes) x.place 0 ≡ e.sender
  pub kind : x.kind ≡ kind_of e.body
  pub another : x.place ≢ r.place
  pub numbers : r.numbers < x.numbers
  pub form : AreCompiled (arc_slice_items r.nodes) (slices_by own configured table (other_kind (kind_of e.body))) (forms_of (other_kind (kind_of e.body)) r)
      → AreCompiled (arc_slice_items r.nodes) (slices_by own configured table (kind_of e.body)) (forms_of (kind_of e.body) r)
      → AreBelow r.numbers (forms_of (kind_of e.body) r)
      → MayJoin (arc_slice_items r.nodes) (forms_of (kind_of e.body) r) x.numbers e.slices x.slices
  pub row : place_of_row (with_row e table) e.sender (kind_of e.body) ≡ x.row

-- The region of an earlier table, of which the rows of one reached node may be others since: the slices of the other
-- nodes are compiled, and name no other nodes, and the places of their rows are kept.
pub record IsKeptRegion (own : ℕ) (configured : Slices) (table : List Sent) (sender : ℕ) (r : Region) : Type 0 where
  pub ascending : IsAscending (arc_slice_items r.nodes)
  pub ballots : AreFormsBut sender (arc_slice_items r.nodes) (slices_by own configured table Kind.Ballot) r.ballots.items
  pub nominations : AreFormsBut sender (arc_slice_items r.nodes) (slices_by own configured table Nomination) r.nominations.items
  pub ballot_names : NameWithinBut sender (arc_slice_items r.nodes) (slices_by own configured table Kind.Ballot)
  pub nomination_names : NameWithinBut sender (arc_slice_items r.nodes) (slices_by own configured table Nomination)
  pub ballot_rows : ArePlacesBut sender table Kind.Ballot (arc_slice_items r.nodes) r.ballot_rows.items
  pub nomination_rows : ArePlacesBut sender table Nomination (arc_slice_items r.nodes) r.nomination_rows.items

-- of which extent a reach is: a wider one is that of these nodes, and of those to whom the sender's rows lead
abbrev pub IsOfExtent : ℕ → Slices → List Sent → ℕ → List ℕ → Extent → Type 0
IsOfExtent own configured table sender nodes Wider = IsNarrow own configured table sender nodes
IsOfExtent own configured table sender nodes Other = ⊤

-- a region of other nodes: where its nodes stand among all, and the forms of their slices, which name none but these;
-- but for those of one node
pub record IsFormerRegion (own : ℕ) (configured : Slices) (table : List Sent) (nodes : List ℕ) (f : FormerRegion)
    : Type 0 where
  pub ballots : IsFormer nodes (slices_by own configured table Kind.Ballot) (arc_slice_items f.region.now.nodes) f.region.now.ballots.items f.places.now f.sender.now
  pub nominations : IsFormer nodes (slices_by own configured table Nomination) (arc_slice_items f.region.now.nodes) f.region.now.nominations.items f.places.now f.sender.now

-- what an envelope of another reached node changes in a region where the table takes it: an entry is set, or the reach
-- is of this extent, and the region one of before
abbrev pub IsChange : ℕ → Slices → List Sent → Sent → Region → Change → Type 0
IsChange own configured table e r (Sets x) = IsEntry own configured table e r x
IsChange own configured table e r (Reach extent) =
    IsRegion own configured table r → IsKeptRegion own configured (with_row e table) e.sender r
    × IsOfExtent own configured (with_row e table) e.sender (arc_slice_items r.nodes) extent
