use Rattle.std.proofs.Common.{◌++◌, ◌∙◌, ℕ, List, subst}
use Rattle.std.specs.List.Sorted.{IsPermutation, IsSorted}
use Rattle.std.proofs.Math.Path.{fun_ext}
use Rattle.scp_types.proofs.NameOrder.{name_cmp_is}
use Rattle.scp_slices.proofs.SetLists.{same_names, sorted_set}
use Rattle.node_reach.proofs.Noted.{among_append}
use Rattle.node_reach.proofs.Widening.{names_differ}
use Rattle.node_reach.proofs.search.join.Goals as goal

pub returns-clause-ascending : goal.returns-clause-ascending
returns-clause-ascending c =
    let nodes = c.args.nodes.items in
    let others = c.args.others.now in
    let all = c.sort.new.self.items in
    let moved : IsPermutation (nodes ++ others) all = subst (λ (xs : List ℕ). IsPermutation xs all) c.in_ok-extend_from_slice.ensures.items c.in_ok-sort.ensures.permutation in
    let sorted = subst (λ f. IsSorted f all) (fun_ext (λ x. fun_ext (λ y. name_cmp_is x y))) c.in_ok-sort.ensures.sorted in
    sorted_set (nodes ++ others) all (names_differ nodes others c.requires.nodes c.requires.others c.requires.apart) moved sorted

pub returns-clause-all : goal.returns-clause-all
returns-clause-all c = λ u.
    let nodes = c.args.nodes.items in
    let others = c.args.others.now in
    let all = c.sort.new.self.items in
    let moved : IsPermutation (nodes ++ others) all = subst (λ (xs : List ℕ). IsPermutation xs all) c.in_ok-extend_from_slice.ensures.items c.in_ok-sort.ensures.permutation in
    same_names (nodes ++ others) all moved u ∙ among_append nodes others u
