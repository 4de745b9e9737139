use Rattle.std.proofs.Common.{ℕ, true, false, ◌≡◌, ◌≤◌, is_some, Some, List, length, subst, sym, ap, ◌∙◌, arith}
use Rattle.scp_spec.specs.Networks.{HostedNode}
use Rattle.host_journal.proofs.Configured.{missing, named, within}
use Rattle.host_journal.proofs.node_place.NodePlace.of.Goals as goal

pub unreachable-requires : goal.unreachable-requires
unreachable-requires c =
    let none : false ≡ true = sym (ap is_some (missing c.args.config.now.nodes c.args.node.now (sym c.place_from.ensures ∙ c.in_default.is))) ∙ c.requires in
    absurd (cc)

pub overflow_cast-result : goal.overflow_cast-result
overflow_cast-result c =
    let inside = within c.args.config.now.nodes c.args.node.now c.in-Some.place (sym c.place_from.ensures ∙ c.in-Some.is) in
    let few = subst (λ (nodes : List HostedNode). length nodes ≤ 256) c.nodes-nodes.ensures.value c.nodes-nodes.ensures.few_nodes in
    omega (arith, inside, few)

pub returns-clause-there : goal.returns-clause-there
returns-clause-there c = named c.args.config.now.nodes c.args.node.now c.in-Some.place (sym c.place_from.ensures ∙ c.in-Some.is) ∙ ap (λ (u : ℕ). Some u) (sym c.of.ensures)
