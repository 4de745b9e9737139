use Rattle.live_journal.proofs.FirstLaws.{first_found, first_missed}
use Rattle.live_journal.proofs.resuming.first_open_line.Goals as goal

pub returns-in-Ok : goal.returns-in-Ok
returns-in-Ok g c =
    first_found _ _ _ c.new-lasting.result c.replay_file-replayed.new.server _ _ c.new-lasting.ensures.server c.new-lasting.ensures.lines
    (rw c.in-Ok.is at c.replay_file-replayed.ensures) c.first_line-first.ensures

pub returns-in-Err : goal.returns-in-Err
returns-in-Err g c =
    first_missed g.S.LineServer.serves _ c.args.server c.new-lasting.result c.replay_file-replayed.new.server c.in-Err.fault c.new-lasting.ensures.server c.new-lasting.ensures.lines
    (rw c.in-Err.is at c.replay_file-replayed.ensures)
