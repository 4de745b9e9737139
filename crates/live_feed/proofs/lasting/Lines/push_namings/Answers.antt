use Rattle.std.proofs.Common.{rules, ◌≡◌, ◌∷◌, [], refl}
use Rattle.std.specs.List.{flat_map}
use Rattle.live_feed.specs.Lasting.{naming_text}
use Rattle.live_feed.proofs.LastingLines.{all_added, one_added}
use Rattle.live_feed.proofs.lasting.Lines.push_namings.Goals as goal

pub loop-number-preserved : goal.loop-number-preserved
loop-number-preserved c =
    let parts : c.loop-number.number-iterator ≡ (c.in-Some.number.now, c.in-Some.network.now) ∷ c.next.new.self = search rules in
    one_added (flat_map naming_text) _ _ _ _ (c.args.self.now.networks) _ _ ((c.in-Some.number.now, c.in-Some.network.now)) parts (refl) c.in_ok-push_naming.ensures c.loop-number.invariant

pub returns : goal.returns
returns c =
    let none : c.loop-number.number-iterator ≡ [] = search rules in
    all_added (flat_map naming_text) _ _ (c.args.self.now.networks) _ none refl c.loop-number.invariant
