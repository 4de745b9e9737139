use Rattle.std.proofs.Common.{sym, ap, ◌∙◌, drop, ◌++◌, List}
use Rattle.pool_cell.specs.declared.decision.Decision.{Decision}
use Rattle.pool_cell.proofs.Growing.{grows, all_appended, ok_out}
use Rattle.pool_cell.proofs.publisher.Publisher.publish.Goals as goal

pub publish_as-writer-requires : goal.publish_as-writer-requires
publish_as-writer-requires g c next is =
    let w = c.self.inside.writer in
    let ops : List Decision = drop w.behind w.log.items in
    grows _ _ w.desk.shown.value next (ops, sym (all_appended w.desk.shown.value ops) ∙ sym is)

pub returns-clause-ok : goal.returns-clause-ok
returns-clause-ok g c =
    let w = c.self.inside.writer in
    let ops : List Decision = drop w.behind w.log.items in
    ok_out _ c.publish_as-writer.result.1 (λ h. (h.0 ∙ all_appended w.desk.shown.value ops ∙ ap (λ p. p.0 ++ p.1) c.self.view_is, h.1)) c.publish_as-writer.ensures.values
