use Rattle.std.proofs.Common.{Some, ◌∙◌, ap, get_or, sym}
use Rattle.scp_types.specs.Statements.{Sent}
use Rattle.node_store.specs.declared.filed.Filed.{Filed}
use Rattle.node_store.specs.Archives.{sents_of}
use Rattle.node_table.proofs.Tabled.{row-nowhere}
use Rattle.node_table.proofs.WaysBack.{row-filed}
use Rattle.node_table.proofs.table.Table.row.Goals as goal
use Rattle.std.proofs.Common.{List}

pub returns-in-Some : goal.returns-in-Some
returns-in-Some g c =
    ap (λ (x : Sent). Some x) c.read.ensures
    ∙ sym (row-filed c.args.self.now c.args.sender.now c.args.kind c.in-Some.place c.index.result.now (sym c.in-Some.ensures.value) (c.index.ensures ∙ ap (λ (xs : List Filed). get_or xs c.in-Some.place c.index.result.now) c.self.view_is))

pub returns-in-None : goal.returns-in-None
returns-in-None g c = sym (row-nowhere (sents_of c.args.self.now) c.args.sender.now c.args.kind (sym c.in-None.ensures.value))
