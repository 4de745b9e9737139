use Rattle.std.specs.Arc.{arc_slice_items}
use Rattle.std.proofs.Common.{List, ℕ, subst, sym}
use Rattle.std.proofs.lemmas.Result.{IfOk-weaker}
use Rattle.node_reach.specs.Widening.{IsNarrow}
use Rattle.node_view.specs.declared.changing.Extent.{Extent}
use Rattle.node_view.specs.Regions.{IsOfExtent}
use Rattle.node_view.proofs.region.Region.new_reach.Goals as goal

pub returns-in-Wider : goal.returns-in-Wider
returns-in-Wider g c =
    let own = c.args.own.name.now in
    let q = c.args.own.slices.now in
    let t = c.args.table.now in
    let sender = c.args.by.sender.now in
    let us = (arc_slice_items c.args.self.now.nodes) in
    let narrow : IsNarrow own q t sender us = subst (λ (x : Extent). IsOfExtent own q t sender us x) c.in-Wider.is c.requires.extent in
    let there = subst (λ (ns : List ℕ). IsNarrow own q t sender ns) (sym c.deref.ensures.value) narrow in
    IfOk-weaker c.wider_reach.result _ _ (λ v found. found own q there) c.wider_reach.ensures
