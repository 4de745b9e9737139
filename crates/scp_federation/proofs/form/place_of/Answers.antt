use Rattle.std.proofs.Common.{◌∙◌, ap, sym, subst}
use Rattle.std.proofs.Math.Path.{fun_ext}
use Rattle.std.specs.List.Sorted.{IsBinarySearchResult}
use Rattle.std.specs.Result.{is_ok}
use Rattle.std.proofs.lemmas.Bool.{false≢true}
use Rattle.scp_types.proofs.NameOrder.{name_cmp_is}
use Rattle.scp_slices.proofs.SetLists.{is_found}
use Rattle.scp_federation.proofs.Found.{found_at}
use Rattle.scp_federation.proofs.FlatteningLaws.{placed}
use Rattle.scp_federation.proofs.form.place_of.Goals as goal

pub unreachable-requires : goal.unreachable-requires
unreachable-requires c =
    let by_number = subst (λ f. IsBinarySearchResult f c.args.names.now c.binary_search.result) (fun_ext (λ y. name_cmp_is y c.args.node.now)) c.binary_search.ensures.position in
    false≢true (sym (ap is_ok c.in-Err.is) ∙ (is_found c.args.names.now c.args.node.now c.binary_search.result c.requires.ascending by_number ∙ c.requires.known))

pub returns : goal.returns
returns c =
    let by_number = subst (λ f. IsBinarySearchResult f c.args.names.now c.binary_search.result) (fun_ext (λ y. name_cmp_is y c.args.node.now)) c.binary_search.ensures.position in
    let found = found_at c.args.names.now c.args.node.now c.in-Ok.place c.binary_search.result c.requires.ascending by_number c.in-Ok.is in
    placed c.args.names.now c.args.node.now c.in-Ok.place c.requires.ascending found.0 found.1
