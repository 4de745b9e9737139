use Rattle.std.proofs.Common.{get_or, sym, ◌∙◌, ap}
use Rattle.host_network.specs.TallyBooks.{TallyBook}
use Rattle.host_network.proofs.TallyLaws.{events-has, events-none}
use Rattle.host_network.proofs.tallies.Tallies.events_from.Goals as goal

pub returns-in-Ok : goal.returns-in-Ok
returns-in-Ok c =
    let read = c.index.ensures ∙ ap (λ (b : TallyBook). get_or b.tallies c.in-Ok.at c.index.result.now) c.self.view_is in
    sym (events-has c.args.self.now.tallies c.args.from.now c.in-Ok.at c.index.result.now c.in-Ok.ensures.0 read)

pub returns-in-Err : goal.returns-in-Err
returns-in-Err c = sym (events-none c.args.self.now.tallies c.args.from.now c.in-Err.ensures.0)
