use Rattle.std.specs.Arc.{arc_slice_items}
use Rattle.std.proofs.Common.{rules, ◌≡◌, ◌<◌, ◌∙◌, List, None, Option, ap, get_or, inr, length, subst, sym}
use Rattle.scp_types.specs.Statements.{kind_of}
use Rattle.scp_types.specs.declared.kind.Kind.{Kind}
use Rattle.scp_spec.specs.Backing.{slices_by}
use Rattle.scp_bits.specs.Places.{Numbered}
use Rattle.node_view.specs.Forms.{IsTwin}
use Rattle.node_view.specs.Regions.{forms_of, other_kind}
use Rattle.node_view.proofs.region.Region.form_for.Goals as goal

pub returns-in-Some-form_in : goal.returns-in-Some-form_in
returns-in-Some-form_in g c =
    let r = c.args.self.now in
    let e = c.args.envelope.now in
    let n = c.args.node in
    let form = c.in-Some-form_in.form.now in
    let kind : c.kind-kind.result ≡ kind_of e.body = search rules in
    let j = other_kind (kind_of e.body) in
    let forms : c.forms-then-told-2.result.now ≡ forms_of j r = c.forms-then-told-2.ensures ∙ ap (λ (i : Kind). forms_of i r) (c.other_kind.ensures ∙ ap other_kind kind) in
    let its = c.requires.told.other c.if-told-2.true in
    let twin : IsTwin (arc_slice_items r.nodes) (slices_by c.args.own.name.now c.args.own.slices.now c.args.table.now j) (forms_of j r) e.slices form = record {
      place = n;
      listed = its.0;
      inside = subst (λ (fs : List (Option Numbered)). n < length fs) forms c.in-Some-form_in.ensures.0;
      there = ap (λ (fs : List (Option Numbered)). get_or fs n None) (sym forms) ∙ c.in-Some-form_in.ensures.1;
      same = its.1;
    } in
    inr (ap (λ (f : Numbered). f.number) c.in_ok-form-2.ensures, (form, twin, ap (λ (f : Numbered). f.set) c.in_ok-form-2.ensures))
