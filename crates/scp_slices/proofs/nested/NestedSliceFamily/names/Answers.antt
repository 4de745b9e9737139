use Rattle.std.proofs.Common.{◌≡◌, ◌≢◌, ℕ, List, rules, subst, sym, ◌∙◌, ap}
use Rattle.std.proofs.Math.Path.{fun_ext}
use Rattle.std.specs.Prelude.{AllPairs}
use Rattle.std.specs.List.Sorted.{IsSorted}
use Rattle.scp_types.proofs.NameOrder.{name_cmp_is}
use Rattle.scp_spec.specs.Sets.{among}
use Rattle.scp_spec.specs.Satisfaction.{names}
use Rattle.scp_slices.proofs.SetLists.{sorted_set, same_names}
use Rattle.scp_slices.proofs.nested.NestedSliceFamily.names.Goals as goal

pub returns-clause-ascending : goal.returns-clause-ascending
returns-clause-ascending c =
    let pushed : c.push_names.new.names.items ≡ names c.args.self.now = search rules in
    let differ = subst (λ (us : List ℕ). AllPairs (λ u w. u ≢ w) us) (sym pushed) c.set.ensures.rules.names_differ in
    let sorted = subst (λ f. IsSorted f c.sort_unstable.new.self.items) (fun_ext (λ x. fun_ext (λ y. name_cmp_is x y))) c.sort_unstable.ensures.sorted in
    sorted_set c.push_names.new.names.items c.sort_unstable.new.self.items differ c.sort_unstable.ensures.permutation sorted

pub returns-clause-all : goal.returns-clause-all
returns-clause-all c = λ u.
    let pushed : c.push_names.new.names.items ≡ names c.args.self.now = search rules in
    same_names c.push_names.new.names.items c.sort_unstable.new.self.items c.sort_unstable.ensures.permutation u ∙ ap (λ (us : List ℕ). among us u) pushed
