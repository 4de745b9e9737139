use Rattle.std.proofs.Common.{◌∙◌, subst}
use Rattle.std.proofs.Math.Path.{fun_ext}
use Rattle.std.specs.List.Sorted.{IsBinarySearchResult}
use Rattle.scp_types.proofs.NameOrder.{name_cmp_is}
use Rattle.scp_slices.proofs.SetLists.{is_found}
use Rattle.scp_slices.proofs.sets.is_among.Goals as goal

pub returns-else-nodes-le-FEW_NODES : goal.returns-else-nodes-le-FEW_NODES
returns-else-nodes-le-FEW_NODES c =
    let by_number = subst (λ f. IsBinarySearchResult f c.args.nodes.now c.binary_search.result) (fun_ext (λ y. name_cmp_is y c.args.node.now)) c.binary_search.ensures.position in
    c.is_ok.ensures.value ∙ is_found c.args.nodes.now c.args.node.now c.binary_search.result c.requires by_number
