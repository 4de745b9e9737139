use Rattle.std.proofs.Common.{Box, Option, subst, sym}
use Rattle.std.specs.Global.{Global}
use Rattle.node_view.specs.declared.known_reach.KnownReach.{KnownReach}
use Rattle.node_view.specs.Knowing.{IsKnown}
use Rattle.node_view.specs.Listening.{KnowsReach, reach_in}
use Rattle.node_view.proofs.known.copy_of_known.Goals as goal

pub returns-in_ok-on_heap-in-Some : goal.returns-in_ok-on_heap-in-Some
returns-in_ok-on_heap-in-Some c = λ k table is.
    let known = subst (λ (o : Option (Box KnownReach Global)). KnowsReach k table (reach_in o)) c.in-Some.is is in
    let before = subst (λ (v : KnownReach). IsKnown k.name k.slices table v) (sym c.deref.ensures) known in
    subst (λ (v : KnownReach). IsKnown k.name k.slices table v) (sym c.in_ok-on_heap-in-Some.ensures) (c.in_ok-copy-in-Some.ensures k.name k.slices table before)
