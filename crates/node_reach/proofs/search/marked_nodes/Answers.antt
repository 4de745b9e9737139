use Rattle.std.proofs.Common.{◌≡◌, ◌+◌, ◌++◌, ◌∷◌, ◌∙◌, [], List, ℕ, Vec, ap, drop, false, get_or, rules, sym, true}
use Rattle.std.specs.Global.{Global}
use Rattle.std.proofs.lemmas.List.{append_assoc, get_or_default}
use Rattle.node_reach.specs.Searching.{with_marks}
use Rattle.node_reach.proofs.Finding.{pick_one}
use Rattle.node_reach.proofs.search.marked_nodes.Goals as goal
use Rattle.node_reach.proofs.search.marked_nodes.Goals.{then-marks-place+in_ok-push, else-marks-place}

pub loop-place-preserved : goal.loop-place-preserved
loop-place-preserved c =
    let nodes = c.args.nodes.now in
    let marks = c.args.marks.now in
    let i = c.loop-place.place in
    let rest = with_marks (drop (i + 1) nodes) (drop (i + 1) marks) in
    elim c.if-marks-place.branch [
      | then-marks-place+in_ok-push w ↦
          let x = w.index-nodes-place.result in
          let step : with_marks (drop i nodes) (drop i marks) ≡ x ∷ rest = pick_one nodes marks i true x c.loop-place-test.true c.requires (search rules) w.index-nodes-place.is in
          ap (λ (v : Vec ℕ Global). v.items ++ rest) w.picked-is
          ∙ (ap (λ (xs : List ℕ). xs ++ rest) w.in_ok-push.ensures.items ∙ (append_assoc c.loop-place.picked.items (x ∷ []) rest ∙ (ap (λ (xs : List ℕ). c.loop-place.picked.items ++ xs) (sym step) ∙ c.loop-place.invariant)))
      | else-marks-place w ↦
          let step : with_marks (drop i nodes) (drop i marks) ≡ rest = pick_one nodes marks i false (get_or nodes i 0) c.loop-place-test.true c.requires (search rules) (get_or_default nodes i 0 (get_or nodes i 0) c.loop-place-test.true) in
          ap (λ (v : Vec ℕ Global). v.items ++ rest) w.picked-is ∙ (ap (λ (xs : List ℕ). c.loop-place.picked.items ++ xs) (sym step) ∙ c.loop-place.invariant)
    ]
