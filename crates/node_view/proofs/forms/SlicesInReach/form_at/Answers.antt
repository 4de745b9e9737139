use Rattle.std.proofs.Common.{sym}
use Rattle.scp_spec.specs.Backing.{slices_by}
use Rattle.node_view.proofs.FormLaws.{part_none, part_some}
use Rattle.node_view.proofs.forms.SlicesInReach.form_at.Goals as goal

pub returns-in-None : goal.returns-in-None
returns-in-None g c =
    let self = c.args.self.now in
    part_none self.rows.nodes (slices_by self.own.now self.slices.now self.rows.table self.rows.kind) c.args.forms.now c.requires.part c.args.place c.requires.before c.in-None.ensures

pub form_of-requires : goal.form_of-requires
form_of-requires g c = record {
  ascending = c.requires.ascending;
  former = c.requires.former;
  inside = c.requires.inside;
  its = sym c.in-Some.ensures;
}

pub returns-in_ok-form-in-Some : goal.returns-in_ok-form-in-Some
returns-in_ok-form-in-Some g c =
    let self = c.args.self.now in
    part_some self.rows.nodes (slices_by self.own.now self.slices.now self.rows.table self.rows.kind) c.args.forms.now c.requires.part c.args.place c.in-Some.slices.now c.in_ok-form-in-Some.form c.requires.before c.in-Some.ensures c.in_ok-form-in-Some.ensures
