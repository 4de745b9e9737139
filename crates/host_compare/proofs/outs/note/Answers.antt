use Rattle.scp_types.specs.declared.event.Out.{Out}
use Rattle.std.proofs.Common.{◌≡◌, ◌∙◌, ◌++◌, ap, subst, ℕ, List, Option, Ok, Err, slice_set}
use Rattle.std.proofs.Math.Path.{fun_ext}
use Rattle.std.proofs.lemmas.Option.{get_or_from_slice_get}
use Rattle.std.specs.List.Sorted.{IsBinarySearchResult}
use Rattle.scp_types.proofs.NameOrder.{name_cmp_is}
use Rattle.scp_spec.specs.Hosts.{Entry}
use Rattle.host_journal.specs.Lending.{outs_in}
use Rattle.host_compare.proofs.OutLaws.{node_is, noted_elsewhere, noted_there}
use Rattle.host_compare.proofs.outs.note.Goals as goal

pub returns-in_default-binary_search : goal.returns-in_default-binary_search
returns-in_default-binary_search g c = λ x e.
    noted_elsewhere c.args.slot x c.args.names.now c.args.list.now.items c.in-Some.node c.in_default-binary_search.field-0
    (node_is c.args.slot c.args.entry.now.journal.now.entries c.args.entry.now.number x _ e c.in-Some.ensures) c.requires.ascending
    (subst (λ f. IsBinarySearchResult f c.args.names.now (Err c.in_default-binary_search.field-0)) (fun_ext (λ y. name_cmp_is y c.in-Some.node)) c.in_default-binary_search.ensures.position)

pub returns : goal.returns
returns g c = λ x e.
    noted_there c.args.slot x c.args.names.now c.args.list.now.items _ c.in-Some.node c.in-Ok.place
    (node_is c.args.slot c.args.entry.now.journal.now.entries c.args.entry.now.number x _ e c.in-Some.ensures) c.requires.ascending
    (subst (λ f. IsBinarySearchResult f c.args.names.now (Ok c.in-Ok.place)) (fun_ext (λ y. name_cmp_is y c.in-Some.node)) c.in-Ok.ensures.position)
    (λ p q.
    let same : c.index_mut-member.result.now ≡ p = c.index_mut-member.ensures.value ∙ get_or_from_slice_get c.args.list.now.items c.in-Ok.place p c.index_mut-member.result.now q in
    let given = ap (λ (o : Option Entry). outs_in o) e in
    ap (λ (r : ℕ × List Out). slice_set c.args.list.now.items c.in-Ok.place r) (c.in_ok-extend.ensures ∙ (λ j. ((same j).0, (same j).1 ++ given j))))
