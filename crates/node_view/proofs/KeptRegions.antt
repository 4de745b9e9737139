-- The reach of a region that stays known while its table changes.
use Rattle.std.proofs.Common.{List, sym, ◌∙◌}
use Rattle.scp_types.specs.Statements.{Sent}
use Rattle.scp_spec.specs.Rows.{with_row}
use Rattle.scp_spec.specs.Stirring.{ReachesSame}
use Rattle.node_view.specs.declared.region.RegionEntry.{RegionEntry}
use Rattle.node_view.specs.declared.region.Region.{Region}
use Rattle.node_view.specs.Regions.{IsEntry, IsRegion}
use Rattle.node_view.specs.declared.configured.Configured.{Configured}

-- an entry that a row sets, which leaves the reach
pub keeps-entry : (c : Configured) (table : List Sent) (e : Sent) (r : Region) (x : RegionEntry) → IsEntry c.name c.slices table e r x → IsRegion c.name c.slices table r → ReachesSame c.name c.slices table (with_row e table)
keeps-entry c table e r x entry is = λ u. sym ((entry.reach is.reach).exactly u) ∙ is.reach.exactly u
