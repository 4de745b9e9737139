use Rattle.std.proofs.Common.{Some}
use Rattle.line_run.proofs.HearingLaws.{at-slot}
use Rattle.line_run.proofs.unheard.Unheard.put.Goals as goal

pub returns-in-Ok : goal.returns-in-Ok
returns-in-Ok c j k = at-slot c.args.number c.args.slot (Some c.args.emissions) c.self.inside.waiting.entries c.args.self.now c.insert.new.self.entries j k c.self.view_is (c.in-Ok.ensures.updates.0 (j, k))
