use Rattle.std.proofs.Common.{[], ◌∙◌, ap}
use Rattle.scp_spec.specs.Networks.{Instance, instances_of_new_slot}
use Rattle.scp_spec.specs.Nodes.{fresh}
use Rattle.host_network.proofs.Placed.{fresh-archived, one-more, one-more-uncounted, instances_of_new_slot-more}
use Rattle.host_network.proofs.open_slot.fresh_instances.Goals as goal

pub loop-hosted-preserved : goal.loop-hosted-preserved
loop-hosted-preserved c = record {
  instances = instances_of_new_slot-more c.loop-hosted.instances.items c.push.new.self.items (instances_of_new_slot c.args.nodes.now c.args.number) c.args.nodes.now c.loop-hosted.hosted-index c.args.number c.hosted-item.result c.new.result c.loop-hosted-test.true c.hosted-item.is c.in_ok-push.ensures.items
      (c.new.ensures.instance ∙ (λ j. record { node = fresh c.args.number (c.name.ensures j) ((c.in_ok-slices.ensures ∙ c.slices.ensures) j); emitted = [] })) c.loop-hosted.invariant.instances;
  archived = λ archive. one-more archive c.loop-hosted.instances.items c.push.new.self.items c.new.result c.in_ok-push.ensures.items (fresh-archived archive c.new.result _ _ _ (ap (λ (p : Instance). p.node) c.new.ensures.instance) c.new.ensures.rows c.new.ensures.emitted) (c.loop-hosted.invariant.archived archive);
  counts = one-more-uncounted c.loop-hosted.instances.items c.push.new.self.items c.new.result c.in_ok-push.ensures.items c.new.ensures.own c.new.ensures.heard c.loop-hosted.invariant.counts;
}
