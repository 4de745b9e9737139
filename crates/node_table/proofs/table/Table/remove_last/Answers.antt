use Rattle.std.proofs.Common.{rules, ◌∙◌, ap, ap₂}
use Rattle.scp_types.specs.Statements.{kind_of}
use Rattle.node_table.specs.Places.{index_without_place}
use Rattle.node_store.specs.Archives.{sents_of}
use Rattle.node_table.proofs.Tabled.{indexed-ascends}
use Rattle.node_table.proofs.WaysBack.{popped-read, left-last}
use Rattle.node_table.proofs.table.Table.remove_last.Goals as goal

pub forget-requires : goal.forget-requires
forget-requires g c = indexed-ascends (sents_of c.self.inside.rows.items) c.self.inside.index c.self.invariant.0

pub invariant_of-self : goal.invariant_of-self
invariant_of-self g c = (
  popped-read c.self.inside.rows.items c.pop.new.self.items c.self.inside.index c.forget.new.self c.in-Some.row c.read-known.result.now c.self.invariant.0 c.in-Some.ensures.items c.read-known.ensures
      (c.forget.ensures ∙ ap₂ (λ u k. index_without_place c.self.inside.index u k) c.sender.ensures.value (c.kind.ensures ∙ ap kind_of c.body.ensures.value)),
  search rules,
)

pub returns-in-Some : goal.returns-in-Some
returns-in-Some g c = left-last c.self.inside.rows.items c.args.self.now c.pop.new.self.items c.in-Some.row c.self.view_is c.in-Some.ensures.items
