use Rattle.std.proofs.Common.{◌≡◌, None, sym, ◌∙◌, ap, ap₂}
use Rattle.scp_types.specs.Statements.{Sent, kind_of}
use Rattle.node_store.specs.Archives.{sent_of, sents_of}
use Rattle.node_table.specs.Places.{place_of_row}
use Rattle.node_table.proofs.Tabled.{row-nowhere, taken-nowhere}
use Rattle.node_table.proofs.WaysBack.{added-filed, added-last}
use Rattle.node_table.proofs.table.Table.put.Goals as goal

pub returns-in-Ok-clause-put : goal.returns-in-Ok-clause-put
returns-in-Ok-clause-put g c =
    let e = sent_of c.args.envelope in
    let rows = sents_of c.args.self.now in
    let none : place_of_row rows e.sender (kind_of e.body) ≡ None =
    ap₂ (λ u k. place_of_row rows u k) (sym (c.sender.ensures.value ∙ ap (λ (x : Sent). x.sender) c.read-new.ensures)) (sym (c.kind-kind.ensures ∙ ap kind_of (c.body.ensures.value ∙ ap (λ (x : Sent). x.body) c.read-new.ensures))) ∙ sym c.in-None.ensures.value in
    (row-nowhere rows e.sender (kind_of e.body) none, taken-nowhere rows e none, added-filed c.args.self.now c.add.new.self c.args.envelope none c.in-Ok.ensures.ok)

pub returns-in-Ok-clause-back : goal.returns-in-Ok-clause-back
returns-in-Ok-clause-back g c = added-last c.args.self.now c.add.new.self c.args.envelope c.in-Ok.ensures.ok

pub returns-in-Err-clause-put : goal.returns-in-Err-clause-put
returns-in-Err-clause-put g c =
    let e = sent_of c.args.envelope in
    let rows = sents_of c.args.self.now in
    let none : place_of_row rows e.sender (kind_of e.body) ≡ None =
    ap₂ (λ u k. place_of_row rows u k) (sym (c.sender.ensures.value ∙ ap (λ (x : Sent). x.sender) c.read-new.ensures)) (sym (c.kind-kind.ensures ∙ ap kind_of (c.body.ensures.value ∙ ap (λ (x : Sent). x.body) c.read-new.ensures))) ∙ sym c.in-None.ensures.value in
    (row-nowhere rows e.sender (kind_of e.body) none, c.in-Err.ensures.err)
