use Rattle.std.proofs.Common.{subst, ◌∙◌}
use Rattle.std.proofs.Math.Path.{fun_ext}
use Rattle.std.specs.List.Sorted.{IsBinarySearchResult}
use Rattle.scp_types.proofs.NameOrder.{name_cmp_is}
use Rattle.scp_slices.proofs.SetLists.{is_found}
use Rattle.scp_bits.proofs.compiling.place_in_nodes.Goals as goal

pub returns-clause-exactly : goal.returns-clause-exactly
returns-clause-exactly c =
    let by_number = subst (λ f. IsBinarySearchResult f c.args.nodes.now c.binary_search.result) (fun_ext (λ y. name_cmp_is y c.args.node.now)) c.binary_search.ensures.position in
    c.ok.ensures.variant ∙ is_found c.args.nodes.now c.args.node.now c.binary_search.result c.requires by_number
