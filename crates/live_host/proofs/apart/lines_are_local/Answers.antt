use Rattle.live_host.proofs.ApartLines as lines
use Rattle.live_host.proofs.apart.lines_are_local.Goals as goal

pub returns : goal.returns
returns c = record { own = lines.lines_are_local; others = lines.other_lines_change_nothing }
