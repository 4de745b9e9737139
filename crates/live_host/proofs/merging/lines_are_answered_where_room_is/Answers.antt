use Rattle.live_host.proofs.ApartLines as lines
use Rattle.live_host.proofs.merging.lines_are_answered_where_room_is.Goals as goal

pub returns : goal.returns
returns c = lines.lines_are_answered_where_room_is
