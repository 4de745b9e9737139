-- Who a node is, the rows that it has, and the nodes that it reaches by them.
use Rattle.std.specs.Arc.{arc_slice_items}
use Rattle.std.specs.Prelude.{ℕ, Bool, Box, true, false, List, Option, Some, None, IfSome, IsFalse, ⊤, box_value, option_map}
use Rattle.std.specs.Global.{Global}
use Rattle.scp_types.specs.Statements.{Sent}
use Rattle.scp_spec.specs.Reach.{IsReach}
use Rattle.scp_spec.specs.Rows.{with_row}
use Rattle.node_view.specs.declared.known_reach.KnownReach.{KnownReach}
use Rattle.node_view.specs.declared.region.Region.{Region}
use Rattle.node_view.specs.Knowing.{AreBallotsOf, AreValuesOf, IsKnown}
use Rattle.node_view.specs.Regions.{IsEntry, IsKeptRegion, IsOfExtent, IsRegion}
use Rattle.scp_spec.specs.Sets.{among}
use Rattle.node_table.specs.declared.table.Put.{Put}
use Rattle.node_store.specs.declared.filed.Filed.{Filed}
use Rattle.node_store.specs.Archives.{sent_of, sents_of}
use Rattle.node_table.specs.declared.table.Put.TheVariants.{Stale, NoMemory, Added, Replaced}
use Rattle.node_view.specs.declared.configured.Configured.{Configured}
use Rattle.node_view.specs.declared.known.Effect.{Effect}
use Rattle.node_view.specs.declared.known.Effect.TheVariants.{Nothing, Sets, Reach, Forgets}

-- a node, and the table of the envelopes that it took, as they were filed
pub record ListenerState : Type 0 where
  pub configured : Configured
  pub table : List Filed

-- what is known of a reach, on the heap, if anything is
abbrev pub reach_in : Option (Box KnownReach Global) → Option KnownReach
reach_in = option_map box_value

-- the region that is known, if one is
abbrev pub region_of : Option KnownReach → Option Region
region_of = option_map (λ k. k.region)

-- what a listener knows of its reach is right
abbrev pub IsKnownOf : ListenerState → KnownReach → Type 0
IsKnownOf h k = IsKnown h.configured.name h.configured.slices (sents_of h.table) k

-- what is known of a reach, if anything is, is what the configuration and the table give
abbrev pub KnowsReach : Configured → List Sent → Option KnownReach → Type 0
KnowsReach c table known = IfSome known (λ k. IsKnown c.name c.slices table k)

-- a region that is known, if one is, is what the configuration and the table give
abbrev pub KnowsRegion : Configured → List Sent → Option Region → Type 0
KnowsRegion c table region = IfSome region (λ r. IsRegion c.name c.slices table r)

-- the ballots and the values of a reach that is known are those of the rows, where they are listed
abbrev pub KnowsLists : Configured → List Sent → Option KnownReach → Type 0
KnowsLists c table known =
    IfSome known (λ k. IfSome k.ballots (λ b. AreBallotsOf c.name table (arc_slice_items k.region.nodes) b) × IfSome k.values (λ v. AreValuesOf c.name table (arc_slice_items k.region.nodes) v))

-- what an envelope does to the region that a listener knows, where the table takes it: nothing; one entry is set; the
-- reach is of some extent, and the region one of before; or it is not known any more
abbrev pub IsEffect : Configured → List Sent → Sent → Option Region → Effect → Type 0
IsEffect c table e region Nothing = KnowsRegion c table region → KnowsRegion c (with_row e table) region
IsEffect c table e region (Sets x) = IfSome region (λ r. IsEntry c.name c.slices table e r x)
IsEffect c table e region (Reach extent) =
    IfSome region (λ r. IsRegion c.name c.slices table r → IsKeptRegion c.name c.slices (with_row e table) e.sender r × IsOfExtent c.name c.slices (with_row e table) e.sender (arc_slice_items r.nodes) extent)
IsEffect c table e region Forgets = ⊤

-- a node that is not among those that are reached
pub record IsStranger (h : ListenerState) (u : ℕ) : Type 0 where
  pub reach : List ℕ
  pub is : IsReach h.configured.name h.configured.slices (sents_of h.table) reach
  pub outside : IsFalse (among reach u)

-- the table has the envelope of a put now
abbrev pub is_put : Put → Bool
is_put Stale = false
is_put NoMemory = false
is_put Added = true
is_put (Replaced r) = true

-- the row that a put replaced
abbrev pub row_before : Put → Option Sent
row_before Stale = None
row_before NoMemory = None
row_before Added = None
row_before (Replaced r) = Some (sent_of r)
