use Rattle.std.proofs.Common.{◌≡◌, ◌<◌, ℕ, List, Some, get_or, length, subst, sym, ◌∙◌, arith}
use Rattle.scp_spec.specs.Networks.{HostedNode}
use Rattle.host_config.specs.Configs.{index_of_name}
use Rattle.host_journal.proofs.Configured.{missing, stands, within}
use Rattle.host_journal.proofs.announcing.configured_slices.Goals as goal

inside : (nodes all : List HostedNode) (u k : ℕ) → nodes ≡ all → Some k ≡ index_of_name all u → k < length nodes
inside nodes all u k same at = subst (λ (hs : List HostedNode). k < length hs) (sym same) (within all u k (sym at))

pub bounds-nodes-place : goal.bounds-nodes-place
bounds-nodes-place c = inside c.nodes-nodes.result.now c.args.config.now.nodes c.args.node.now c.in-Some.place c.nodes-nodes.ensures.value (sym c.in-Some.is ∙ c.place.ensures)

pub offset_bounds-nodes-place : goal.offset_bounds-nodes-place
offset_bounds-nodes-place c =
    let l = inside c.nodes-nodes.result.now c.args.config.now.nodes c.args.node.now c.in-Some.place c.nodes-nodes.ensures.value (sym c.in-Some.is ∙ c.place.ensures) in
    let few = c.nodes-nodes.ensures.few_nodes in
    omega (arith, l, few)

pub returns-in-None-clause-value : goal.returns-in-None-clause-value
returns-in-None-clause-value c = sym (missing c.args.config.now.nodes c.args.node.now (sym c.place.ensures ∙ c.in-None.is))

pub returns-in-Some-clause-value : goal.returns-in-Some-clause-value
returns-in-Some-clause-value c =
    let at = sym c.place.ensures ∙ c.in-Some.is in
    let l = within c.args.config.now.nodes c.args.node.now c.in-Some.place at in
    stands c.args.config.now.nodes c.args.node.now c.in-Some.place c.index-nodes-place.result c.slices.result.now at l
    (subst (λ (hs : List HostedNode). c.index-nodes-place.result ≡ get_or hs c.in-Some.place c.index-nodes-place.result) c.nodes-nodes.ensures.value c.index-nodes-place.is) c.slices.ensures
