use Rattle.std.proofs.Common.{rules, refl, ◌+◌}
use Rattle.live_feed.specs.Served.{reply_of}
use Rattle.live_feed.proofs.ReplayLaws.{line_replayed}
use Rattle.live_feed.proofs.replaying.take_line.Goals as goal

pub returns : goal.returns
returns g c s t one =
    let told = c.in_ok-tell_again.ensures.told in
    line_replayed g.S.LineServer.serves _ s t _ _ _ _ c.in-Some.bytes.now (reply_of c.args.answer) (c.args.place.end.lines + 1) _ (search rules) refl (search rules) told.0 told.1 c.end_behind.ensures.behind c.end_behind.ensures.none
