use Rattle.std.proofs.Common.{subst, sym}
use Rattle.host_closure.specs.Turns.{PartyIndex, IsIndex, IsIndexedTo, receiver_at, sender_at}
use Rattle.host_closure.proofs.Indexing.{index_none, index_more}
use Rattle.host_closure.proofs.deliveries.Deliveries.of.Goals as goal

pub loop-number-init : goal.loop-number-init
loop-number-init g c =
    let run = g.J.Announcements.entries c.args.journal.now in
    record {
      sent = subst (λ (d : PartyIndex). IsIndex (sender_at c.args.slot) run 0 d) (sym c.new-deliveries.ensures.sent) (index_none (sender_at c.args.slot) run);
      heard = subst (λ (d : PartyIndex). IsIndex (receiver_at c.args.slot) run 0 d) (sym c.new-deliveries.ensures.heard) (index_none (receiver_at c.args.slot) run);
    }

pub loop-number-preserved : goal.loop-number-preserved
loop-number-preserved g c =
    let run = g.J.Announcements.entries c.args.journal.now in
    let was = c.loop-number.invariant in
    record {
      sent = index_more (sender_at c.args.slot) run c.loop-number.number c.loop-number.deliveries.sent c.push.new.self.sent was.sent
          (subst (λ o. IsIndexedTo c.loop-number.deliveries.sent c.push.new.self.sent o) c.parties_at-sender.ensures.sender c.in_ok-push.ensures.sent);
      heard = index_more (receiver_at c.args.slot) run c.loop-number.number c.loop-number.deliveries.heard c.push.new.self.heard was.heard
          (subst (λ o. IsIndexedTo c.loop-number.deliveries.heard c.push.new.self.heard o) c.parties_at-sender.ensures.receiver c.in_ok-push.ensures.heard);
    }
