use Rattle.std.proofs.Common.{◌≡◌, ◌∙◌, sym, ap, rules, true, false}
use Rattle.std.proofs.lemmas.List.Sorted.{answers_always}
use Rattle.scp_spec.specs.Networks.{HostedNode}
use Rattle.host_config.specs.Configs.{names_of, rises}
use Rattle.host_config.proofs.Sorted.{ascending, rises-once-sorted-by-name}
use Rattle.host_config.proofs.config.in_order.Goals as goal

pub returns-then-is_ascending-clause-ascending : goal.returns-then-is_ascending-clause-ascending
returns-then-is_ascending-clause-ascending c =
    let nodes = c.sort_unstable_by_key.new.self.items in
    ascending (names_of nodes) (ap (λ hs. rises (names_of hs)) (sym c.deref.ensures.value) ∙ (sym c.is_ascending.ensures ∙ c.if-is_ascending.true))

pub returns-then-is_ascending-clause-exactly : goal.returns-then-is_ascending-clause-exactly
returns-then-is_ascending-clause-exactly c =
    let nodes = c.sort_unstable_by_key.new.self.items in
    let sorted = c.sort_unstable_by_key.ensures.sorted (λ (h : HostedNode). h.name) (answers_always _ _ _ (λ f a r g h. search rules)) in
    let rise : true ≡ rises (names_of nodes) = sym c.if-is_ascending.true ∙ (c.is_ascending.ensures ∙ ap (λ hs. rises (names_of hs)) c.deref.ensures.value) in
    rise ∙ rises-once-sorted-by-name c.args.nodes.items nodes c.sort_unstable_by_key.ensures.permutation sorted

pub returns-else-is_ascending-clause-exactly : goal.returns-else-is_ascending-clause-exactly
returns-else-is_ascending-clause-exactly c =
    let nodes = c.sort_unstable_by_key.new.self.items in
    let sorted = c.sort_unstable_by_key.ensures.sorted (λ (h : HostedNode). h.name) (answers_always _ _ _ (λ f a r g h. search rules)) in
    let rise : false ≡ rises (names_of nodes) = sym c.if-is_ascending.false ∙ (c.is_ascending.ensures ∙ ap (λ hs. rises (names_of hs)) c.deref.ensures.value) in
    rise ∙ rises-once-sorted-by-name c.args.nodes.items nodes c.sort_unstable_by_key.ensures.permutation sorted
