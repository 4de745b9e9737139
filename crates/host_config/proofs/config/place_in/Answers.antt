use Rattle.std.proofs.Common.{sym, subst, Ok, Err}
use Rattle.std.proofs.Math.Path.{fun_ext}
use Rattle.std.specs.List.Sorted.{IsBinarySearchResult}
use Rattle.scp_types.proofs.NameOrder.{name_cmp_is}
use Rattle.host_config.proofs.Names.{place-found, place-nowhere}
use Rattle.host_config.proofs.config.place_in.Goals as goal

pub returns-in-Ok : goal.returns-in-Ok
returns-in-Ok c =
    let found = subst (λ f. IsBinarySearchResult f c.args.names.now (Ok c.in-Ok.place)) (fun_ext (λ y. name_cmp_is y c.args.name.now)) c.in-Ok.ensures.position in
    sym (place-found c.args.names.now c.args.name.now c.in-Ok.place c.requires found)

pub returns-in-Err : goal.returns-in-Err
returns-in-Err c =
    let found = subst (λ f. IsBinarySearchResult f c.args.names.now (Err c.in-Err.field-0)) (fun_ext (λ y. name_cmp_is y c.args.name.now)) c.in-Err.ensures.position in
    sym (place-nowhere c.args.names.now c.args.name.now c.in-Err.field-0 c.requires found)
