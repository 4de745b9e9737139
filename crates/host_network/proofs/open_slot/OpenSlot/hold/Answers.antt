use Rattle.std.proofs.Common.{◌≡◌, ◌+◌, ◌≤◌, ◌∙◌, List, ap, length, subst, sym, take}
use Rattle.std.specs.List.{All}
use Rattle.host_network.specs.FiledSlots.{FiledInstance, FiledSlot, IsInstanceHeld}
use Rattle.host_network.proofs.Forgetting.{all-of, one-more-instance}
use Rattle.host_network.proofs.open_slot.OpenSlot.hold.Goals as goal

pub loop-instance-preserved : goal.loop-instance-preserved
loop-instance-preserved c =
    let now = c.loop-instance.held in
    let new = c.hold.new.held in
    let there = c.deref-instance-items.result.now in
    let same : there ≡ c.args.self.now.instances = c.deref-instance-items.ensures.value ∙ ap (λ (s : FiledSlot). s.instances) c.self.view_is in
    record {
      held = subst (λ (ls : List FiledInstance). All (IsInstanceHeld new) (take (c.loop-instance.instance-index + 1) ls)) same
          (one-more-instance now new there c.loop-instance.instance-index c.instance-item.result c.loop-instance-test.true c.instance-item.is c.hold.ensures.kept c.hold.ensures.held
          (subst (λ (ls : List FiledInstance). All (IsInstanceHeld now) (take c.loop-instance.instance-index ls)) (sym same) c.loop-instance.invariant.held));
      kept = λ f h. c.hold.ensures.kept f (c.loop-instance.invariant.kept f h);
    }

pub returns-clause-held : goal.returns-clause-held
returns-clause-held c =
    let same = c.deref-instance-items.ensures.value ∙ ap (λ (s : FiledSlot). s.instances) c.self.view_is in
    all-of (IsInstanceHeld c.loop-instance.held) c.args.self.now.instances c.loop-instance.instance-index
    (subst (λ (ls : List FiledInstance). length ls ≤ c.loop-instance.instance-index) same c.loop-instance-test.false) c.loop-instance.invariant.held
