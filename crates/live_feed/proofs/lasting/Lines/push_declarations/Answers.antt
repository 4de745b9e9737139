use Rattle.std.proofs.Common.{rules, ◌≡◌, ◌∷◌, [], refl}
use Rattle.std.specs.List.{flat_map}
use Rattle.live_feed.specs.Lasting.{declaration_text}
use Rattle.std.specs.Map.{values_of}
use Rattle.live_feed.proofs.LastingLines.{all_added, one_added}
use Rattle.live_feed.proofs.lasting.Lines.push_declarations.Goals as goal

pub loop-declaration-preserved : goal.loop-declaration-preserved
loop-declaration-preserved c =
    let parts : c.loop-declaration.declaration-iterator ≡ c.in-Some.declaration.now ∷ c.next.new.self = search rules in
    one_added (flat_map (declaration_text c.args.self.now.networks)) _ _ _ _ (values_of c.args.self.now.lasting.declarations) _ _ (c.in-Some.declaration.now) parts (refl) c.in_ok-push_declaration.ensures c.loop-declaration.invariant

pub returns : goal.returns
returns c =
    let none : c.loop-declaration.declaration-iterator ≡ [] = search rules in
    all_added (flat_map (declaration_text c.args.self.now.networks)) _ _ (values_of c.args.self.now.lasting.declarations) _ none refl c.loop-declaration.invariant
