use Rattle.std.proofs.Common.{rules, set, subst, sym}
use Rattle.node_store.specs.declared.filed.Filed.{Filed}
use Rattle.node_store.specs.Archives.{sents_of}
use Rattle.node_table.specs.Places.{IsIndexed}
use Rattle.node_table.proofs.WaysBack.{set-filed}
use Rattle.node_table.proofs.table.Table.replace.Goals as goal

pub invariant_of-self : goal.invariant_of-self
invariant_of-self c = (
  subst (λ (x : Filed). IsIndexed (sents_of (set c.self.inside.rows.items c.args.place x)) c.self.inside.index) (sym c.replace.ensures.after)
      (set-filed c.self.inside.rows.items c.args.self.now c.self.inside.index c.args.envelope c.args.place c.self.invariant.0 c.self.view_is c.requires.row),
  search rules,
)
