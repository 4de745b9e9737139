use Rattle.std.proofs.Common.{ap}
use Rattle.live_feed.specs.Lasting.{Watched}
use Rattle.live_feed.proofs.LastingLines.{compacted_or_not}
use Rattle.live_feed.proofs.lasting.compact.Goals as goal

pub returns-in-Ok : goal.returns-in-Ok
returns-in-Ok g c =
    compacted_or_not g.S.LineServer.serves _ c.args.server _ _ _ c.in-Ok.field-0 c.new-lasting.result c.replay.new.server c.lasting.inside.lines
    c.write_compacted-written.result c.new-lasting.ensures.server c.new-lasting.ensures.lines (rw c.in-Ok.is at c.replay.ensures)
    (ap (λ (w : Watched _). w.lines) c.lasting.view_is) c.write_compacted-written.ensures.written c.write_compacted-written.ensures.failed
