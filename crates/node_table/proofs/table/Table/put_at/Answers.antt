use Rattle.std.proofs.Common.{rules, ◌≡◌, ◌<◌, ◌∙◌, Some, length, true, ap, sym, subst}
use Rattle.scp_types.specs.Statements.{kind_of}
use Rattle.node_store.specs.Archives.{sent_of, sents_of}
use Rattle.scp_spec.specs.Rows.{is_taken}
use Rattle.node_table.proofs.Filings.{sents-length}
use Rattle.node_table.proofs.Tabled.{placed-within}
use Rattle.node_table.proofs.WaysBack.{replaced-filed, row-filed, row-restored}
use Rattle.node_table.proofs.table.Table.put_at.Goals as goal

pub is_newer_than_row-requires-clause-within : goal.is_newer_than_row-requires-clause-within
is_newer_than_row-requires-clause-within g c =
    let e = sent_of c.args.envelope in
    subst (λ n. c.args.place < n) (sents-length c.args.self.now)
    (placed-within (sents_of c.args.self.now) e.sender (kind_of e.body) (Some c.args.place) (sym c.requires.row))

pub replace-requires-clause-within : goal.replace-requires-clause-within
replace-requires-clause-within g c =
    let e = sent_of c.args.envelope in
    subst (λ n. c.args.place < n) (sents-length c.args.self.now)
    (placed-within (sents_of c.args.self.now) e.sender (kind_of e.body) (Some c.args.place) (sym c.requires.row))

pub returns-then-is_newer_than_row-clause-put : goal.returns-then-is_newer_than_row-clause-put
returns-then-is_newer_than_row-clause-put g c =
    let e = sent_of c.args.envelope in
    let rows = sents_of c.args.self.now in
    let taken : is_taken rows e ≡ true = ap (is_taken rows) (sym c.read.ensures) ∙ sym c.is_newer_than_row.ensures ∙ c.if-is_newer_than_row.true in
    (row-filed c.args.self.now e.sender (kind_of e.body) c.args.place c.replace.result c.requires.row c.replace.ensures.row, taken, replaced-filed c.args.self.now c.replace.new.self c.args.place c.args.envelope c.requires.row c.replace.ensures.table)

pub returns-then-is_newer_than_row-clause-back : goal.returns-then-is_newer_than_row-clause-back
returns-then-is_newer_than_row-clause-back g c =
    row-restored c.args.self.now c.replace.new.self c.args.place c.args.envelope c.replace.result c.requires.row c.replace.ensures.row c.replace.ensures.table

pub returns-then-is_newer_than_row-clause-known : goal.returns-then-is_newer_than_row-clause-known
returns-then-is_newer_than_row-clause-known g c =
    let e = sent_of c.args.envelope in
    let within : c.args.place < length c.args.self.now = subst (λ n. c.args.place < n) (sents-length c.args.self.now)
    (placed-within (sents_of c.args.self.now) e.sender (kind_of e.body) (Some c.args.place) (sym c.requires.row)) in
    search rules
