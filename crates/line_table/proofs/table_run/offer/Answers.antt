use Rattle.std.proofs.Common.{◌≡◌, sym, subst}
use Rattle.line_table.specs.TableLines.{Takes}
use Rattle.line_table.proofs.RunLaws.{said, same_number}
use Rattle.line_table.proofs.table_run.offer.Goals as goal

pub returns-in-Replaced-clause-takes : goal.returns-in-Replaced-clause-takes
returns-in-Replaced-clause-takes c =
    let slot : c.args.envelope.slot ≡ c.args.listener.now.configured.slot = same_number _ _ (λ other. let e = c.take.ensures.other.1 other in cc) in
    said _ _ (λ printed. Takes c.args.listener.now c.args.envelope printed c.take.new.self) c.say.result
    (subst (λ k. Takes c.args.listener.now c.args.envelope _ k) (sym (c.take.ensures.replaced c.in-Replaced.is)) (Takes.replaced slot (c.take.ensures.newer c.in-Replaced.is))) c.say.ensures.said

pub returns-in-Stale-clause-takes : goal.returns-in-Stale-clause-takes
returns-in-Stale-clause-takes c =
    let stale = c.take.ensures.stale.0 c.in-Stale.is in
    said _ _ (λ printed. Takes c.args.listener.now c.args.envelope printed c.take.new.self) c.say-in-Stale.result
    (subst (λ k. Takes c.args.listener.now c.args.envelope _ k) (sym (c.take.ensures.unchanged (λ e. cc))) (Takes.stale stale.0 stale.1)) c.say-in-Stale.ensures.said

pub returns-in-OtherSlot-clause-takes : goal.returns-in-OtherSlot-clause-takes
returns-in-OtherSlot-clause-takes c =
    said _ _ (λ printed. Takes c.args.listener.now c.args.envelope printed c.take.new.self) c.say-in-OtherSlot.result
    (subst (λ k. Takes c.args.listener.now c.args.envelope _ k) (sym (c.take.ensures.unchanged (λ e. cc))) (Takes.other (c.take.ensures.other.0 c.in-OtherSlot.is))) c.say-in-OtherSlot.ensures.said
