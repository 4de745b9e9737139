use Rattle.std.proofs.Common.{◌∙◌, sym}
use Rattle.live_feed.proofs.ReplayLaws.{all_whole, whole_before}
use Rattle.live_feed.proofs.gathering.whole_lines.Goals as goal

pub returns-in-Some : goal.returns-in-Some
returns-in-Some c = whole_before c.args.lines.now c.in-Some.place (sym c.first_hole.ensures ∙ c.in-Some.is)

pub returns-in-None : goal.returns-in-None
returns-in-None c = all_whole c.args.lines.now (sym c.first_hole.ensures ∙ c.in-None.is)
