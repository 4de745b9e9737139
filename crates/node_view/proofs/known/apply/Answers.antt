use Rattle.std.specs.Arc.{arc_slice_items}
use Rattle.std.proofs.Common.{Box, IfSome, List, Option, subst, sym, ℕ}
use Rattle.std.specs.Global.{Global}
use Rattle.node_view.specs.declared.known_reach.KnownReach.{KnownReach}
use Rattle.node_view.specs.Knowing.{AreBallotsOf, AreValuesOf}
use Rattle.node_view.specs.Regions.{IsEntry, IsRegion}
use Rattle.node_view.specs.declared.known.Effect.{Effect}
use Rattle.node_view.specs.Listening.{IsEffect, KnowsLists, KnowsRegion, reach_in, region_of}
use Rattle.node_view.proofs.KeptRegions.{keeps-entry}
use Rattle.node_view.proofs.known.apply.Goals as goal

pub returns-in-Some-clause-known : goal.returns-in-Some-clause-known
returns-in-Some-clause-known c = λ k table e effect is.
    let v = c.deref_mut.result.now in
    let x = c.in-Sets.entry in
    let kept = subst (λ (p : Option (Box KnownReach Global) × Effect). IsEffect k table e (region_of (reach_in p.0)) p.1) (λ i. (c.in-Some.is i, c.in-Sets.is i)) effect in
    let entry : IsEntry k.name k.slices table e v.region x = subst (λ (w : KnownReach). IsEntry k.name k.slices table e w.region x) (sym c.deref_mut.ensures.value) kept in
    let known = subst (λ (o : Option (Box KnownReach Global)). KnowsRegion k table (region_of (reach_in o))) c.in-Some.is is in
    let before : IsRegion k.name k.slices table v.region = subst (λ (w : KnownReach). IsRegion k.name k.slices table w.region) (sym c.deref_mut.ensures.value) known in
    c.set_entry.ensures.region k.name k.slices table e entry before

pub returns-in-Some-clause-reach : goal.returns-in-Some-clause-reach
returns-in-Some-clause-reach c = λ some k table e effect is.
    let r = c.in-Some.known.value.region in
    let entry : IsEntry k.name k.slices table e r c.in-Sets.entry = subst (λ (p : Option (Box KnownReach Global) × Effect). IsEffect k table e (region_of (reach_in p.0)) p.1) (λ i. (c.in-Some.is i, c.in-Sets.is i)) effect in
    let before : IsRegion k.name k.slices table r = subst (λ (o : Option (Box KnownReach Global)). KnowsRegion k table (region_of (reach_in o))) c.in-Some.is is in
    keeps-entry k table e r c.in-Sets.entry entry before

pub returns-in-Some-clause-lists : goal.returns-in-Some-clause-lists
returns-in-Some-clause-lists c = λ k table are.
    let v = c.deref_mut.result.now in
    let known = subst (λ (o : Option (Box KnownReach Global)). KnowsLists k table (reach_in o)) c.in-Some.is are in
    let lists : KnownReach → List ℕ → Type 0 = λ w us. IfSome w.ballots (λ b. AreBallotsOf k.name table us b) × IfSome w.values (λ z. AreValuesOf k.name table us z) in
    let before = subst (λ (w : KnownReach). lists w (arc_slice_items w.region.nodes)) (sym c.deref_mut.ensures.value) known in
    subst (lists v) (sym c.set_entry.ensures.nodes) before
