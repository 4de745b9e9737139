use Rattle.std.proofs.Common.{◌≡◌, ◌∙◌, ◌<◌, sym, ap, subst, refl, List, Some, None, map, is_some, not, true, option_map}
use Rattle.std.proofs.lemmas.List.Kept.{AllPairs-filter}
use Rattle.scp_spec.specs.Sets.{IsAscending, among}
use Rattle.scp_spec.specs.Networks.{HostedNode, slices_of}
use Rattle.host_closure.specs.Announcing.{member_names}
use Rattle.host_closure.proofs.Parted.{judged_as}
use Rattle.host_compare.specs.OutLists.{hosted_in, outs_of_each}
use Rattle.host_compare.proofs.Judging.{some_mapped, never_without, inputs_with, same_with}
use Rattle.host_compare.proofs.comparing.compare_journal.Goals as goal

pub unreachable-requires : goal.unreachable-requires
unreachable-requires g c =
    let hosted : is_some (slices_of c.args.one.now.config.nodes c.args.node.now) ≡ true =
    sym (ap is_some c.slices.ensures.value) ∙ (some_mapped _ c.slices.result ∙ (c.is_none.ensures ∙ ap not c.if-is_none.false)) in
    never_without c.args.one.now _ c.args.slot c.args.node.now c.in_ok-members.members c.in_ok-members.ensures hosted c.in_default.ensures (ap (λ o. option_map (λ j. j.now) o) c.in_default-other.is)

pub returns-in-Some-difference-clause-verdict : goal.returns-in-Some-difference-clause-verdict
returns-in-Some-difference-clause-verdict g c =
    let hosted : is_some (slices_of c.args.one.now.config.nodes c.args.node.now) ≡ true =
    sym (ap is_some c.slices.ensures.value) ∙ (some_mapped _ c.slices.result ∙ (c.is_none.ensures ∙ ap not c.if-is_none.false)) in
    inputs_with c.args.one.now _ c.args.slot c.args.node.now c.in_ok-members.members c.in_ok-members.ensures hosted c.in_default.ensures c.in-Some-other.other.now (ap (λ o. option_map (λ j. j.now) o) c.in-Some-other.is)
    c.in-Some-difference.place (judged_as c.in_ok-difference.difference (Some c.in-Some-difference.place) c.in-Some-difference.is refl refl c.in_ok-difference.ensures)

pub outs_of_each-requires : goal.outs_of_each-requires
outs_of_each-requires g c =
    let R = among (member_names c.in_ok-members.members) in
    let nodes_are : c.nodes.result.now ≡ c.args.one.now.config.nodes = c.nodes.ensures.value ∙ ap (λ x. x.nodes) c.config.ensures in
    subst IsAscending (sym (c.deref.ensures.value ∙ (c.in_ok-names.ensures ∙ ap (λ (hs : List HostedNode). hosted_in R hs) nodes_are))) (AllPairs-filter (λ x y. x < y) R (map (λ (h : HostedNode). h.name) c.args.one.now.config.nodes) c.slices.ensures.ascending)

pub returns-clause-verdict : goal.returns-clause-verdict
returns-clause-verdict g c =
    let R = among (member_names c.in_ok-members.members) in
    let hosted : is_some (slices_of c.args.one.now.config.nodes c.args.node.now) ≡ true =
    sym (ap is_some c.slices.ensures.value) ∙ (some_mapped _ c.slices.result ∙ (c.is_none.ensures ∙ ap not c.if-is_none.false)) in
    let nodes_are : c.nodes.result.now ≡ c.args.one.now.config.nodes = c.nodes.ensures.value ∙ ap (λ x. x.nodes) c.config.ensures in
    let names_are : c.deref.result.now ≡ hosted_in R c.args.one.now.config.nodes = c.deref.ensures.value ∙ (c.in_ok-names.ensures ∙ ap (λ (hs : List HostedNode). hosted_in R hs) nodes_are) in
    same_with c.args.one.now _ c.args.slot c.args.node.now c.in_ok-members.members c.in_ok-members.ensures hosted c.in_default.ensures c.in-Some-other.other.now (ap (λ o. option_map (λ j. j.now) o) c.in-Some-other.is)
    c.slices.ensures.ascending (judged_as c.in_ok-difference.difference None c.in_default-difference.is refl refl c.in_ok-difference.ensures) c.are_isolated.ensures c.in_ok-outs_of_each.field-0
    (c.in_ok-outs_of_each.ensures ∙ ap (λ names. outs_of_each c.args.slot c.args.one.now.entries names) names_are)
