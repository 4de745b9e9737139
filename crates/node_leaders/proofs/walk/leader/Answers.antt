use Rattle.std.proofs.Common.{◌≡◌, ℕ, sym, subst, ◌∙◌, arith, ap}
use Rattle.scp_types.specs.Trees.{Slices, member_count, depth_of}
use Rattle.scp_spec.specs.Weights.{Fraction}
use Rattle.scp_slices.specs.Weighing.{part_of, whole}
use Rattle.node_leaders.specs.Leaders.{IsLeader}
use Rattle.scp_spec.specs.Leaders.{beats}
use Rattle.node_leaders.specs.declared.draw.Draw.{Draw}
use Rattle.node_leaders.specs.Walk.{best_among, is_drawn, HasRoomForLevels}
use Rattle.node_leaders.proofs.Room.{whole_has_room}
use Rattle.node_leaders.proofs.Choice.{leads}
use Rattle.node_leaders.proofs.LeaderLaws.{known, leader_is}
use Rattle.node_leaders.proofs.walk.leader.Goals as goal

pub best_in-requires-clause-room : goal.best_in-requires-clause-room
best_in-requires-clause-room c =
    let levels = ap (λ (q : Slices). depth_of q.members) c.set.ensures.value in
    subst (λ (f : Fraction). HasRoomForLevels f (depth_of c.set.result.now.members)) (sym c.one.ensures)
    (whole_has_room (depth_of c.set.result.now.members) (omega (arith, levels, c.set.ensures.rules.levels)))

pub returns-clause-best : goal.returns-clause-best
returns-clause-best c =
    let slot = c.args.slot in
    let round = c.args.round in
    let best = λ (q : Slices) (f : Fraction) (v : ℕ). best_among (is_drawn slot round) (beats slot round) (part_of q.threshold (member_count q.members) f) q.members v in
    let drawn : c.new-own.new.draws ≡ record { slot = slot; round = round } = c.new-own.ensures.same ∙ c.turn_to.ensures in
    let value : c.best_in.result.node ≡ best c.args.slices.now whole c.args.node.now =
    c.best_in.ensures.node
    ∙ ap (λ (d : Draw). best_among (is_drawn d.slot d.round) (beats d.slot d.round) (part_of c.set.result.now.threshold (member_count c.set.result.now.members) c.one.result) c.set.result.now.members c.new-own.result.node) drawn
    ∙ ap (λ (q : Slices). best q c.one.result c.new-own.result.node) c.set.ensures.value
    ∙ ap (λ (f : Fraction). best c.args.slices.now f c.new-own.result.node) c.one.ensures
    ∙ ap (λ (v : ℕ). best c.args.slices.now whole v) c.new-own.ensures.node in
    subst (IsLeader slot round c.args.node.now c.args.slices.now) (sym value)
    (leads slot round c.args.node.now c.args.slices.now c.set.ensures.rules.names_differ)

pub returns-clause-computed : goal.returns-clause-computed
returns-clause-computed c = leader_is c.args.slot c.args.round c.args.node.now c.args.slices.now c.best_in.result.node (returns-clause-best c)

pub returns-clause-known : goal.returns-clause-known
returns-clause-known c = known c.args.slot c.args.round c.args.node.now c.args.slices.now c.best_in.result.node (returns-clause-best c)
