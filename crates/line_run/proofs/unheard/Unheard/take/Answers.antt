use Rattle.std.proofs.Common.{None}
use Rattle.line_run.proofs.HearingLaws.{at-slot}
use Rattle.line_run.proofs.unheard.Unheard.take.Goals as goal

pub returns-clause-rest : goal.returns-clause-rest
returns-clause-rest c j k = at-slot c.args.number c.args.slot None c.self.inside.waiting.entries c.args.self.now c.remove.new.self.entries j k c.self.view_is (c.remove.ensures.updates.0 (j, k))
