use Rattle.std.proofs.Common.{◌≡◌, ◌∙◌, sym, ap, true, false}
use Rattle.host_config.specs.Configs.{rises}
use Rattle.scp_types.proofs.RisingNames.{rises-once-sorted}
use Rattle.host_config.proofs.Sorted.{ascending}
use Rattle.host_config.proofs.roster.in_order.Goals as goal

pub returns-then-is_ascending-clause-ascending : goal.returns-then-is_ascending-clause-ascending
returns-then-is_ascending-clause-ascending c =
    ascending c.sort_unstable.new.self.items (ap rises (sym c.deref.ensures.value) ∙ (sym c.is_ascending.ensures ∙ c.if-is_ascending.true))

pub returns-then-is_ascending-clause-exactly : goal.returns-then-is_ascending-clause-exactly
returns-then-is_ascending-clause-exactly c =
    let names = c.sort_unstable.new.self.items in
    let rise : true ≡ rises names = sym c.if-is_ascending.true ∙ (c.is_ascending.ensures ∙ ap rises c.deref.ensures.value) in
    rise ∙ rises-once-sorted c.args.names.items names c.sort_unstable.ensures.permutation c.sort_unstable.ensures.sorted

pub returns-else-is_ascending-clause-exactly : goal.returns-else-is_ascending-clause-exactly
returns-else-is_ascending-clause-exactly c =
    let names = c.sort_unstable.new.self.items in
    let rise : false ≡ rises names = sym c.if-is_ascending.false ∙ (c.is_ascending.ensures ∙ ap rises c.deref.ensures.value) in
    rise ∙ rises-once-sorted c.args.names.items names c.sort_unstable.ensures.permutation c.sort_unstable.ensures.sorted
