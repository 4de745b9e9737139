use Rattle.std.proofs.Common.{◌≡◌, ◌∙◌, OnOk, is_ok, refl, sym, ap, subst}
use Rattle.std.specs.Prelude.{IsTrue}
use Rattle.std.proofs.lemmas.Bool.{false≢true}
use Rattle.node_table.specs.Puts.{IsPut}
use Rattle.node_store.specs.Archives.{sent_of, sents_of}
use Rattle.scp_spec.specs.Rows.{table_with_offer}
use Rattle.node_view.proofs.Offers.{first-taken, table_with_offer-stale, table_with_offer-taken, put-takes}
use Rattle.node_view.proofs.listener.Listener.offer.Goals as goal
use Rattle.node_view.proofs.listener.Listener.offer.Goals.{in-NoMemory, in-Stale, in-Added}

pub returns-clause-offered : goal.returns-clause-offered
returns-clause-offered g c =
    let old = c.args.self.now.table in
    let new = c.put-put.new.self.table in
    let x = sent_of c.args.envelope in
    elim c.match-put.branch [
      | in-NoMemory w ↦ subst (λ r. OnOk r (sents_of new ≡ table_with_offer (sents_of old) x)) (sym w.result-is) tt
      | in-Stale w ↦
          let p = subst (λ p. IsPut old x p new) w.in-Stale.is c.put-put.ensures.put in
          subst (λ r. OnOk r (sents_of new ≡ table_with_offer (sents_of old) x)) (sym w.result-is) (ap sents_of p.1 ∙ sym (table_with_offer-stale (sents_of old) x p.0))
      | in-Added w ↦
          let p = put-takes old new x c.put-put.result.0 c.put-put.ensures.put w.in-Added.is in
          subst (λ r. OnOk r (sents_of new ≡ table_with_offer (sents_of old) x)) (sym w.result-is) (p.1 ∙ sym (table_with_offer-taken (sents_of old) x p.0))
    ]

pub returns-clause-idle : goal.returns-clause-idle
returns-clause-idle g c = λ idle.
    elim c.match-put.branch [
      | in-NoMemory w ↦
          let first = subst (λ p. IsPut c.args.self.now.table (sent_of c.args.envelope) p c.put-put.new.self.table) w.in-NoMemory.is c.put-put.ensures.put in
          absurd (false≢true (sym idle ∙ first-taken (sents_of c.args.self.now.table) (sent_of c.args.envelope) first.0))
      | in-Stale w ↦ subst (λ r. IsTrue (is_ok r)) (sym w.result-is) refl
      | in-Added w ↦ subst (λ r. IsTrue (is_ok r)) (sym w.result-is) refl
    ]
