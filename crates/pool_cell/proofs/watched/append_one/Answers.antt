use Rattle.std.proofs.Common.{Option, sym, ap, ◌∙◌, option_map, option_to_list}
use Rattle.host_journal.specs.Deciding.{decided_by}
use Rattle.host_journal.specs.declared.lent_decision.LentDecision.{LentDecision}
use Rattle.pool_cell.proofs.Published.{appended, none_more}
use Rattle.pool_cell.proofs.watched.append_one.Goals as goal

pub returns-in-None-clause-done : goal.returns-in-None-clause-done
returns-in-None-clause-done g c =
    λ _. none_more c.args.journal.now.entries c.args.number c.args.publisher.now c.requires.before c.requires.within (sym c.decision.ensures ∙ ap (λ (o : Option LentDecision). option_to_list (option_map decided_by o)) c.in-None.is)

pub returns-in-Ok-clause-done : goal.returns-in-Ok-clause-done
returns-in-Ok-clause-done g c =
    let d = c.in-Some.decision in
    appended c.args.journal.now.entries c.args.number c.args.publisher.now c.append.new.self (decided_by d) (record { slot = d.slot; node = d.node; value = c.in-Ok.value }) c.append.result c.is_ok.result c.requires.before c.requires.within
    (ap (λ (o : Option LentDecision). option_to_list (option_map decided_by o)) (sym c.in-Some.is) ∙ c.decision.ensures)
    c.append.ensures.shown c.append.ensures.ok (λ i. record { slot = d.slot; node = d.node; value = c.in-Ok.ensures i }) c.is_ok.ensures.value
