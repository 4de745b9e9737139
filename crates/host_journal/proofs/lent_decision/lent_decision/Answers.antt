use Rattle.std.proofs.Common.{ℕ, Option, ap, ◌∙◌}
use Rattle.node_core.specs.Filings.{whole_outs}
use Rattle.host_journal.specs.Deciding.{decided_at, externalized_values}
use Rattle.host_journal.proofs.DecidedOnce.{first-is-all}
use Rattle.host_journal.proofs.lent_decision.lent_decision.Goals as goal

pub returns : goal.returns
returns g c =
    let is = first-is-all _ _ c.first_value.ensures c.requires.once in
    c.decision_at.ensures ∙ ap (decided_at c.slot_and_node_of.result) is ∙ ap (λ (at : Option (ℕ × ℕ)). decided_at at (externalized_values (whole_outs c.args.outs.now))) c.slot_and_node_of.ensures
