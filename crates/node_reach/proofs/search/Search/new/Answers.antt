use Rattle.std.proofs.Common.{◌≡◌, ◌||◌, ◌∙◌, Bool, List, ap, ap₂, false, length, replicate, rules}
use Rattle.scp_spec.specs.Sets.{among}
use Rattle.node_reach.specs.Searching.{has_mark}
use Rattle.node_reach.specs.Sweeps.{Swept}
use Rattle.node_reach.proofs.Finding.{none_marked}
use Rattle.node_reach.proofs.search.Search.new.Goals as goal

pub returns-clause-found : goal.returns-clause-found
returns-clause-found c = λ u.
    let nodes = c.args.known.nodes.now in
    let made : c.in_ok-vec.field-0.items ≡ replicate (length nodes) false = c.in_ok-vec.ensures.items_if_clones_equal (λ y h. search rules) in
    ap₂ (λ (bs : List Bool) (o : Swept). has_mark nodes bs u || among o.found u) made c.new-2.ensures ∙ ap (λ b. b || false) (none_marked nodes (length nodes) u)
