use Rattle.std.proofs.Common.{◌≡◌, ◌∙◌, List, None, true, ap, inl, inr, set, subst, sym}
use Rattle.scp_spec.specs.Rows.{has_single_rows, table_with_offer}
use Rattle.node_store.specs.declared.filed.Filed.{Filed}
use Rattle.node_store.specs.Archives.{sent_of, sents_of}
use Rattle.node_table.specs.Puts.{IsFiledPut, IsPut}
use Rattle.node_view.proofs.Offers.{table_with_offer-stale, table_with_offer-taken}
use Rattle.line_table.specs.Listeners.{HeardRows}
use Rattle.line_table.proofs.GoneRows.{rows-stay}
use Rattle.line_table.proofs.table_listener.TableListener.offer.Goals as goal

pub invariant_of-self-in-Replaced : goal.invariant_of-self-in-Replaced
invariant_of-self-in-Replaced c =
    let old = c.self.inside.listener.table in
    let new = c.put-2.new.self.table in
    let x = sent_of c.in_ok-filed.filed in
    let row = c.in-Replaced.row in
    let p = subst (λ p. IsPut old x p new) c.in-Replaced.is c.put-2.ensures.put in
    let single : has_single_rows (sents_of old) ≡ true = subst (λ (fs : List Filed). has_single_rows (sents_of fs) ≡ true) c.table.ensures c.rows-single_rows.ensures.single in
    let known = subst (λ p. IsFiledPut c.put.new.self p) c.in-Replaced.is c.put-2.ensures.known in
    rows-stay old new x row c.put.new.self c.remove.new.self single p.0 p.1 p.2 c.put-2.ensures.filed known (subst (λ (r : Filed). c.remove.new.self ≡ set c.put.new.self r.number None) c.in-Replaced.row-is c.remove.ensures)

pub returns-in-Stale-clause-offered : goal.returns-in-Stale-clause-offered
returns-in-Stale-clause-offered c =
    let old = c.self.inside.listener.table in
    let new = c.put-2.new.self.table in
    let x = sent_of c.in_ok-filed.filed in
    let is : x ≡ c.args.envelope = c.in_ok-filed.ensures.is ∙ c.with_shared_slices-envelope.ensures in
    let rows : sents_of new ≡ table_with_offer (sents_of old) x = elim c.in-Stale.is [
      | inl stale ↦ let p = subst (λ p. IsPut old x p new) stale c.put-2.ensures.put in ap sents_of p.1 ∙ sym (table_with_offer-stale (sents_of old) x p.0)
      | inr added ↦ let p = subst (λ p. IsPut old x p new) added c.put-2.ensures.put in p.2 ∙ sym (table_with_offer-taken (sents_of old) x p.1)
    ] in
    let view = c.self.view_is in
    λ i. record { configured = (c.put-2.ensures.same ∙ ap (λ (h : HeardRows). h.configured) view) i; rows = (rows ∙ (λ j. table_with_offer (view j).rows (is j))) i }

pub returns-in-Replaced-clause-offered : goal.returns-in-Replaced-clause-offered
returns-in-Replaced-clause-offered c =
    let old = c.self.inside.listener.table in
    let new = c.put-2.new.self.table in
    let x = sent_of c.in_ok-filed.filed in
    let p = subst (λ p. IsPut old x p new) c.in-Replaced.is c.put-2.ensures.put in
    let is : x ≡ c.args.envelope = c.in_ok-filed.ensures.is ∙ c.with_shared_slices-envelope.ensures in
    let rows : sents_of new ≡ table_with_offer (sents_of old) x = p.2 ∙ sym (table_with_offer-taken (sents_of old) x p.1) in
    let view = c.self.view_is in
    λ i. record { configured = (c.put-2.ensures.same ∙ ap (λ (h : HeardRows). h.configured) view) i; rows = (rows ∙ (λ j. table_with_offer (view j).rows (is j))) i }
