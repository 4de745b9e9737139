use Rattle.std.proofs.Common.{◌≡◌, ◌∙◌, ◌++◌, ◌∷◌, ◌==◌, [], sym, ap, subst, ℕ, List, arith}
use Rattle.std.proofs.Math.Path.{fun_ext}
use Rattle.std.specs.List.{IsDistinct}
use Rattle.std.specs.List.Sorted.{IsSorted}
use Rattle.std.proofs.lemmas.List.{take_all, length-map}
use Rattle.scp_slices.proofs.SetLists.{same_names}
use Rattle.scp_types.proofs.NameOrder.{name_cmp_is}
use Rattle.scp_spec.specs.Sets.{among}
use Rattle.host_closure.specs.Announcing.{member_names}
use Rattle.line_report.proofs.Names.{sorted_once, taken_more, none_taken}
use Rattle.line_report.proofs.order.ascending_members.Goals as goal
use Rattle.line_report.proofs.order.ascending_members.Goals.{in-Some+in_ok-push, in_default}

pub loop-place-preserved : goal.loop-place-preserved
loop-place-preserved c = elim c.match-name.branch [
  | in-Some+in_ok-push w ↦ ap (λ v. v.items) w.names-is ∙ (w.in_ok-push.ensures.items ∙ (ap (λ (xs : List ℕ). xs ++ w.in-Some.name ∷ []) c.loop-place.invariant ∙ sym (taken_more (member_names c.args.members.now) c.loop-place.place w.in-Some.name (sym w.in-Some.ensures))))
  | in_default w ↦
      let past = none_taken (member_names c.args.members.now) c.loop-place.place (sym c.name.ensures ∙ w.in_default.is) in
      let same = length-map c.args.members.now (λ (m : ℕ × ℕ). m.0) in
      absurd (omega (arith, past, same, c.loop-place-test.true, c.len-place-end.ensures.value))
]

pub returns-clause-ascending : goal.returns-clause-ascending
returns-clause-ascending c =
    let same = length-map c.args.members.now (λ (m : ℕ × ℕ). m.0) in
    let whole : c.loop-place.names.items ≡ member_names c.args.members.now = c.loop-place.invariant ∙ take_all c.loop-place.place (member_names c.args.members.now) (omega (arith, same, c.loop-place-test.false, c.len-place-end.ensures.value)) in
    let sorted = subst (λ f. IsSorted f c.sort_unstable.new.self.items) (fun_ext (λ x. fun_ext (λ y. name_cmp_is x y))) c.sort_unstable.ensures.sorted in
    sorted_once c.loop-place.names.items c.sort_unstable.new.self.items (subst (λ (xs : List ℕ). IsDistinct (λ x y. x == y) xs) (sym whole) c.len-place-end.ensures.once) c.sort_unstable.ensures.permutation sorted

pub returns-clause-all : goal.returns-clause-all
returns-clause-all c = λ u.
    let same = length-map c.args.members.now (λ (m : ℕ × ℕ). m.0) in
    let whole : c.loop-place.names.items ≡ member_names c.args.members.now = c.loop-place.invariant ∙ take_all c.loop-place.place (member_names c.args.members.now) (omega (arith, same, c.loop-place-test.false, c.len-place-end.ensures.value)) in
    same_names c.loop-place.names.items c.sort_unstable.new.self.items c.sort_unstable.ensures.permutation u ∙ ap (λ (xs : List ℕ). among xs u) whole
