use Rattle.std.proofs.Common.{◌∙◌, sym, ap}
use Rattle.scp_types.specs.Trees.{rises}
use Rattle.scp_types.proofs.RisingNames.{rising_differ, rises-once-sorted}
use Rattle.scp_types.proofs.nested.all_differ.Goals as goal

pub returns-then-is_ascending : goal.returns-then-is_ascending
returns-then-is_ascending c =
    sym (rising_differ c.args.names.items (ap rises (sym c.deref.ensures.value) ∙ (sym c.is_ascending.ensures ∙ c.if-is_ascending.true)))

pub returns : goal.returns
returns c =
    let names = c.sort_unstable.new.self.items in
    c.is_ascending-2.ensures ∙ (ap rises c.deref-2.ensures.value ∙ rises-once-sorted c.args.names.items names c.sort_unstable.ensures.permutation c.sort_unstable.ensures.sorted)
