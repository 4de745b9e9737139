use Rattle.live_host.proofs.ApartLines as lines
use Rattle.live_host.proofs.apart.lines_are_answered_next_to_others.Goals as goal

pub returns : goal.returns
returns c = lines.lines_are_answered_next_to_others
