use Rattle.line_script.proofs.StreamLaws.{limited_ran}
use Rattle.line_script.proofs.stream.run_stream.Goals as goal

pub returns : goal.returns
returns g c = limited_ran _ _ _ _ _ _ _ _ _ (rw (c.take-limited.ensures.limit, c.take-limited.ensures.inner) at c.run_limited.ensures)
