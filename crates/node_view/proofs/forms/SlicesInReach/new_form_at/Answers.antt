use Rattle.std.proofs.Common.{◌≡◌, ◌==◌, ◌∙◌, ℕ, IfOk, IfSome, Option, Result, Ok, Err, ap, List, get_or, refl, subst}
use Rattle.std.proofs.lemmas.Bool.{eq-eqb}
use Rattle.std.proofs.lemmas.List.{get_or_default}
use Rattle.std.proofs.lemmas.List.Folds.{list_any_at}
use Rattle.std.proofs.lemmas.Result.{IfOk-weaker}
use Rattle.scp_spec.specs.Backing.{slices_by}
use Rattle.scp_bits.specs.Places.{Numbered}
use Rattle.node_view.specs.declared.forms.Former.{Former}
use Rattle.node_view.specs.Forms.{IsFormOf, IsFormerOf}
use Rattle.node_view.proofs.FormLaws.{form_again}
use Rattle.node_view.proofs.forms.SlicesInReach.new_form_at.Goals as goal

both : {X Y : Type 0} (r : Result X Y) (P Q : X → Type 0) → IfOk r P → IfOk r Q → IfOk r (λ x. P x × Q x)
both (Ok x) P Q p q = (p, q)
both (Err y) P Q p q = tt

pub returns-in-Some-kept_form : goal.returns-in-Some-kept_form
returns-in-Some-kept_form g c =
    let s = c.args.self.now in
    let all = s.rows.nodes in
    let slices_at = slices_by s.own.now s.slices.now s.rows.table s.rows.kind in
    let f = c.in-Some.former in
    let q = c.args.slices.now in
    let u = get_or all c.args.place 0 in
    let form : Numbered = c.in-Some-kept_form.form.now in
    let former : IsFormerOf all slices_at f = subst (λ (o : Option Former). IfSome o (IsFormerOf all slices_at)) c.in-Some.is c.requires.former in
    let its : IsFormOf f c.index-nodes-place.result form = c.in-Some-kept_form.ensures in
    let node : c.index-nodes-place.result ≡ u = c.index-nodes-place.is ∙ (ap (λ (us : List ℕ). get_or us c.args.place c.index-nodes-place.result) c.nodes-nodes.ensures ∙ get_or_default all c.args.place c.index-nodes-place.result 0 c.requires.inside) in
    let is : IsFormOf f u form = subst (λ w. IsFormOf f w form) node its in
    let again = form_again all f.nodes.now f.places.now slices_at f.forms.now f.sender.now former u q is.place form is.inside is.node is.another is.there c.requires.its (list_any_at (λ y. y == u) all c.args.place 0 c.requires.inside (eq-eqb u u refl)) in
    IfOk-weaker c.relocate.result _ _ (λ x made. (made.0, made.1 f.nodes.now all q former.moved again.1 again.2 again.0)) (both c.relocate.result _ _ c.relocate.ensures.number c.relocate.ensures.compiled)
