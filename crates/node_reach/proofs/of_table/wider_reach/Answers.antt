use Rattle.std.proofs.Common.{◌||◌, ◌∙◌, ℕ, List, ap, ap₂}
use Rattle.scp_spec.specs.Sets.{among}
use Rattle.node_reach.proofs.Widening.{reach_of_all}
use Rattle.node_reach.proofs.of_table.wider_reach.Goals as goal

pub returns : goal.returns
returns g c = λ own configured narrow.
    let known = c.args.nodes.now in
    let found = c.in_ok-others.others.items in
    reach_of_all own configured c.args.table.now c.args.sender.now known found c.are_single.ensures narrow c.in_ok-others.ensures c.in_ok-all.all.items c.in_ok-all.ensures.ascending
    (λ u. c.in_ok-all.ensures.all u ∙ ap₂ (λ a b. a || b) (ap (λ (us : List ℕ). among us u) c.in_ok-from_slice.ensures.items) (ap (λ (us : List ℕ). among us u) c.deref.ensures.value))
