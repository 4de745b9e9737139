use Rattle.std.proofs.Common.{◌≡◌, length}
use Rattle.scp_spec.specs.Backing.{slices_by}
use Rattle.node_view.specs.Forms.{ArePart}
use Rattle.node_view.proofs.forms.SlicesInReach.forms.Given as goal

abbrev pub invariant-loop-place : goal.invariant-loop-place
invariant-loop-place g l = record {
  as_many : length l.forms.items ≡ l.place;
  part : ArePart l.self.rows.nodes (slices_by l.self.own.now l.self.slices.now l.self.rows.table l.self.rows.kind) l.forms.items;
}
