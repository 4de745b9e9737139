use Rattle.std.proofs.Common.{map, subst, sym}
use Rattle.scphost.specs.Commands.{HasAnsweredWords}
use Rattle.scphost.proofs.CommandLaws.{called}
use Rattle.scphost.proofs.command.answer_words.Goals as goal

pub returns-in-Ok : goal.returns-in-Ok
returns-in-Ok g c =
    subst (λ out. HasAnsweredWords (map g.S.AsStr.text c.args.words.now) (g.W.Write.contents c.args.outputs.now.out) out c.exit_status.result)
    (sym c.explain_end.ensures)
    (called _ c.in-Ok.call _ _ c.open_and_perform-end.result _ c.in-Ok.ensures.sound c.open_and_perform-end.ensures c.exit_status.ensures)
