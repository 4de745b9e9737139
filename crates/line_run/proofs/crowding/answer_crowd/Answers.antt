use Rattle.line_run.proofs.crowding.answer_crowd.Goals as goal

pub returns : goal.returns
returns c = record {
  verdict = c.in_ok-verdict.verdict;
  right = c.in_ok-verdict.ensures.verdict;
  never_crowded_out = c.crowd.ensures.never_crowded_out;
  tells = c.in_ok-answer.ensures;
}
