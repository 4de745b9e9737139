use Rattle.std.proofs.Common.{ap}
use Rattle.std.specs.Prelude.{Err}
use Rattle.line_script.proofs.RunLaws.{unread}
use Rattle.line_script.proofs.run.run_script.Goals as goal

pub returns-in-Err-clause-ran : goal.returns-in-Err-clause-ran
returns-in-Err-clause-ran g c = rw c.from.ensures (unread _ _ _ _ _ _ c.in-Err.error (λ e. c.in-Err.ensures.too_long (ap (λ x. Err x) e)))
