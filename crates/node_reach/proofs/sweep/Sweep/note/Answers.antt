use Rattle.std.proofs.Common.{◌≡◌, ◌+◌, ◌∙◌, ◌++◌, ◌∷◌, ◌||◌, ◌==◌, if◌then◌else◌, [], ℕ, List, length, ap}
use Rattle.scp_spec.specs.Sets.{among}
use Rattle.node_reach.specs.Sweeps.{Swept}
use Rattle.node_reach.proofs.Noted.{ascends, found_with, noted_first}
use Rattle.node_reach.proofs.sweep.Sweep.note.Goals as goal

pub returns-in_ok-push : goal.returns-in_ok-push
returns-in_ok-push c =
    let x = c.args.node.now in
    let old = c.self.inside.found.keys in
    let new = c.insert.new.self.keys in
    let found : old ≡ c.args.self.now.found = ap (λ (s : Swept). s.found) c.self.view_is in
    let one : length new ≡ length c.args.self.now.found + 1 = c.in-Ok.ensures.len ∙ (λ i. length (found i) + (if c.if-is_new.true i then 1 else 0)) in
    noted_first _ _ x (ascends new c.in-Ok.ensures.ordered)
    (λ u. found_with old new x c.in-Ok.ensures.updates.0 u ∙ ap (λ (xs : List ℕ). (x == u) || among xs u) found)
    one
    (c.in_ok-push.ensures.items ∙ ap (λ (xs : List ℕ). xs ++ x ∷ []) (ap (λ (s : Swept). s.pending) c.self.view_is))
