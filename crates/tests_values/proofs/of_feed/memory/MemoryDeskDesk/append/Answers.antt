use Rattle.std.proofs.Common.{◌∙◌, ◌/◌, ◌++◌, ◌∷◌, [], ap, ap₂, drop, length, sym, take, take-append-drop}
use Rattle.std.proofs.lemmas.List.{map-append}
use Rattle.line_script.specs.Script.{Bytes}
use Rattle.live_feed.specs.Acts.Act.{Wrote}
use Rattle.tests_values.specs.Deeds.{act_of, acts_of}
use Rattle.tests_values.proofs.of_feed.memory.MemoryDeskDesk.append.Goals as goal

-- half of the line was written, and the rest was not
pub returns-then-fails-clause-done : goal.returns-then-fails-clause-done
returns-then-fails-clause-done g c =
    let line = c.args.line.now in
    let half = length line / 2 in (
      take half line,
      drop half line,
      sym (take-append-drop half line),
      ap acts_of c.note.ensures.0 ∙ map-append act_of c.fails.new.self.deeds.items _
          ∙ ap₂ (λ deeds (part : Bytes). acts_of deeds ++ Wrote part ∷ []) (ap (λ deeds. deeds.items) c.fails.ensures.0) c.copy_of-part.ensures,
    )
