use Rattle.std.specs.Arc.{arc_slice_items}
use Rattle.std.proofs.Common.{rules, ◌<◌, IsTrue, arith}
use Rattle.scp_types.specs.Statements.{kind_of}
use Rattle.scp_spec.specs.Backing.{slices_by}
use Rattle.scp_spec.specs.Sets.{among}
use Rattle.node_view.specs.Forms.{IsFoundInEither}
use Rattle.node_view.specs.Regions.{forms_of, other_kind}
use Rattle.node_view.proofs.EntryLaws.{names_by_either}
use Rattle.node_view.proofs.FormLaws.{either_joins}
use Rattle.node_view.proofs.KeptLaws.{kept_region}
use Rattle.node_view.proofs.Standings.{among_there}
use Rattle.node_view.proofs.region.Region.change_at.Goals as goal

pub returns : goal.returns
returns g c =
    let r = c.args.self.now in
    let e = c.args.envelope.now in
    let k = kind_of e.body in
    let us = (arc_slice_items r.nodes) in
    let f = c.in-Some-found.form in
    let slices_at = slices_by c.args.own.name.now c.args.own.slices.now c.args.table.now k in
    let more : r.numbers < c.in-Some.numbers = omega (arith, c.in-Some.ensures) in
    let j = other_kind k in
    let other_at = slices_by c.args.own.name.now c.args.own.slices.now c.args.table.now j in
    let found : IsFoundInEither us slices_at (forms_of k r) other_at (forms_of j r) r.numbers e.slices f = search rules in
    record {
      reach = λ is. c.in_ok-drops_none.ensures.stays c.if-not-drops_none.false us (names_by_either c.args.own.name.now c.args.own.slices.now c.args.table.now k j us (forms_of k r) (forms_of j r) r.numbers e.slices f found is) is;
      within = search rules;
      sender = search rules;
      kind = search rules;
      another = search rules;
      numbers = more;
      form = either_joins us slices_at (forms_of k r) other_at (forms_of j r) e.slices f r.numbers c.in-Some.numbers more found;
      row = c.row_place.ensures e c.requires.row;
    }

pub returns-in_default-found : goal.returns-in_default-found
returns-in_default-found g c = λ is.
    let own = c.args.own.name.now in
    let q = c.args.own.slices.now in
    let t = c.args.table.now in
    let r = c.args.self.now in
    let e = c.args.envelope.now in
    let there : IsTrue (among (arc_slice_items r.nodes) e.sender) = among_there (arc_slice_items r.nodes) c.args.there.node e.sender c.requires.within c.requires.sender in
    (kept_region own q t e r is, c.in_ok-drops_none.ensures.narrow c.if-not-drops_none.false (arc_slice_items r.nodes) there is.reach)

pub returns-then-there-self : goal.returns-then-there-self
returns-then-there-self g c = λ is. (kept_region c.args.own.name.now c.args.own.slices.now c.args.table.now c.args.envelope.now c.args.self.now is, tt)

pub returns-then-not-drops_none : goal.returns-then-not-drops_none
returns-then-not-drops_none g c = λ is. (kept_region c.args.own.name.now c.args.own.slices.now c.args.table.now c.args.envelope.now c.args.self.now is, tt)

pub returns-in_default : goal.returns-in_default
returns-in_default g c = λ is. (kept_region c.args.own.name.now c.args.own.slices.now c.args.table.now c.args.envelope.now c.args.self.now is, tt)
