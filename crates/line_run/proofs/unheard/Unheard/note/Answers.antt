use Rattle.std.proofs.Common.{ap}
use Rattle.std.specs.Prelude.{option_map}
use Rattle.line_run.proofs.HearingLaws.{noted-behind}
use Rattle.line_run.proofs.unheard.Unheard.note.Goals as goal

pub returns-in-Some-first_emitted : goal.returns-in-Some-first_emitted
returns-in-Some-first_emitted c =
    noted-behind c.add.result c.args.closed c.args.number c.slot.result c.args.given.now c.args.self.now c.add.new.self c.deref.result.now _ c.in-Some-first_emitted.first.now c.in-None.is c.deref.ensures.value c.first_emitted.ensures
    (ap (option_map (λ e. e.now)) c.in-Some-first_emitted.is) c.slot.ensures c.add.ensures
