use Rattle.std.proofs.Common.{◌∙◌, ap}
use Rattle.line_run.specs.Unprinted.{Unprinted}
use Rattle.line_run.proofs.Histories.{compared}
use Rattle.line_run.proofs.comparing.answer_compare.Goals as goal

pub returns : goal.returns
returns c = compared _ _ _ _ _ _ _ c.in_ok-verdict.verdict _ _
    (c.world-one.ensures ∙ ap (λ (r : Unprinted). r.hosting.logs) c.run.ensures.run)
    (c.world-other.ensures ∙ ap (λ (r : Unprinted). r.hosting.logs) c.run-2.ensures.run)
    c.run.ensures.history c.run-2.ensures.history
    c.in_ok-verdict.ensures.verdict c.in_ok-verdict.ensures.histories c.is_difference-differs.ensures c.in_ok-text.ensures
