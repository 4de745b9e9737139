use Rattle.std.proofs.Common.{rules, ◌≡◌, ◌∷◌, [], refl}
use Rattle.line_script.specs.Script.{lines_with_feeds}
use Rattle.std.specs.Map.{values_of}
use Rattle.live_feed.proofs.LastingLines.{all_added, one_added, one_line_first}
use Rattle.live_feed.proofs.lasting.Lines.push_events.Goals as goal

pub loop-line-preserved : goal.loop-line-preserved
loop-line-preserved c =
    let parts : c.loop-line.line-iterator ≡ c.in-Some.line.now ∷ c.next.new.self = search rules in
    one_added (lines_with_feeds) _ _ _ _ (values_of c.args.self.now.lasting.events) _ _ (c.in-Some.line.now) parts (one_line_first _ _) c.in_ok-push_event.ensures c.loop-line.invariant

pub returns : goal.returns
returns c =
    let none : c.loop-line.line-iterator ≡ [] = search rules in
    all_added (lines_with_feeds) _ _ (values_of c.args.self.now.lasting.events) _ none refl c.loop-line.invariant
