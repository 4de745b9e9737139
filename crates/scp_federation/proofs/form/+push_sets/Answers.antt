use Rattle.std.proofs.Common.{◌≡◌, ◌+◌, ◌≤◌, [], ◌∷◌, ◌++◌, Vec, length, set, drop, ap, sym, ◌∙◌, rules, arith}
use Rattle.std.specs.Global.{Global}
use Rattle.scp_types.specs.Trees.{Members, names_in, weight_of}
use Rattle.scp_types.specs.Shape.{members_of}
use Rattle.scp_types.proofs.Weights.{inner_weighs_less}
use Rattle.scp_spec.specs.Sets.{among}
use Rattle.scp_federation.specs.declared.flat_set.FlatMember.{FlatMember}
use Rattle.scp_federation.specs.declared.flat_set.FlatMember.TheVariants.{Name, Inner}
use Rattle.scp_federation.specs.Numbers.{Level, flat_members, flat_levels, place_of_name}
use Rattle.scp_federation.proofs.FlatteningLaws.{next_node, next_set, node_within, set_within, node_step, set_step, all_pushed}
use Rattle.scp_federation.proofs.form.+push_sets.Goals as goal
use Rattle.scp_federation.proofs.form.+push_sets.Goals.{in-Node+in_ok-push-in-Node, in-Set+in_ok-push-in-Set+in_ok-push_sets-in-Set}

pub place_of-requires-clause-known : goal.place_of-requires-clause-known
place_of-requires-clause-known t c =
    let tree = c.members-tree.result.now in
    let u = c.in-Node.node in
    let next = next_node tree c.loop-member.member-index c.member-item.result u c.loop-member-test.true c.member-item.is c.in-Node.is in
    c.requires.known u (ap (λ (ms : Members). among (names_in ms) u) (sym c.members-tree.ensures) ∙ node_within tree c.loop-member.member-index u next)

pub push_sets-requires : goal.push_sets-requires
push_sets-requires t c =
    let tree = c.members-tree.result.now in
    let i = c.loop-member.member-index in
    let w = inner_weighs_less tree i c.member-item.result c.in-Set.inner c.loop-member-test.true c.member-item.is c.in-Set.is in
    let e = ap weight_of c.members-tree.ensures in
    let next = next_set tree i c.member-item.result c.in-Set.inner c.loop-member-test.true c.member-item.is c.in-Set.is in (
      omega (arith, w, e, c.decreases),
      (c.requires.ascending, λ u h. c.requires.known u (ap (λ (ms : Members). among (names_in ms) u) (sym c.members-tree.ensures) ∙ set_within tree i u c.in-Set.inner next h)),
    )

pub loop-member-preserved : goal.loop-member-preserved
loop-member-preserved t c =
    let us = c.args.names.now in
    let tree = c.members-tree.result.now in
    let i = c.loop-member.member-index in
    let before = c.loop-member.invariant in
    let ms = c.loop-member.members.items in
    let sets = c.loop-member.sets.items in
    let more = c.match-member.members.items in
    let added = c.match-member.sets.items in
    let number = c.len-number.result in
    let q = c.args.set.now in
    let kept : Level = record { threshold = q.threshold; members = [] } in
    let all = flat_members us (number + 1) q.members in
    let every = c.args.sets.now.items ++ kept ∷ flat_levels us (number + 1) q.members in
    let after : (length sets ≤ length added) × ((more ++ flat_members us (length added) (members_of (drop (i + 1) tree)) ≡ all) × (added ++ flat_levels us (length added) (members_of (drop (i + 1) tree)) ≡ every)) = elim c.match-member.branch [
      | in-Node+in_ok-push-in-Node w ↦
          let next = next_node tree i c.member-item.result w.in-Node.node c.loop-member-test.true c.member-item.is w.in-Node.is in
          let ms_are : more ≡ ms ++ Name (place_of_name us w.in-Node.node) ∷ [] =
          ap (λ (v : Vec FlatMember Global). v.items) w.members-is ∙ (w.in_ok-push-in-Node.ensures.items ∙ ap (λ p. ms ++ Name p ∷ []) w.place_of.ensures) in
          let sets_are : added ≡ sets = ap (λ (v : Vec Level Global). v.items) w.sets-is in
          node_step us tree i w.in-Node.node all every ms more sets added next ms_are sets_are before.numbers before.pushed
      | in-Set+in_ok-push-in-Set+in_ok-push_sets-in-Set w ↦
          let next = next_set tree i c.member-item.result w.in-Set.inner c.loop-member-test.true c.member-item.is w.in-Set.is in
          let counted : w.len.result ≡ length sets = search rules in
          let ms_are : more ≡ ms ++ Inner (length sets) ∷ [] =
          ap (λ (v : Vec FlatMember Global). v.items) w.members-is ∙ (w.in_ok-push-in-Set.ensures.items ∙ ap (λ p. ms ++ Inner p ∷ []) counted) in
          let sets_are = ap (λ (v : Vec Level Global). v.items) w.sets-is ∙ w.in_ok-push_sets-in-Set.ensures in
          set_step us tree i w.in-Set.inner all every ms more sets added next ms_are sets_are before.numbers before.pushed
    ] in
    record { shape = before.shape; number = before.number; room = omega (arith, before.room, after.0); numbers = after.1.0; pushed = after.1.1 }

pub returns : goal.returns
returns t c =
    let q = c.args.set.now in
    let kept : Level = record { threshold = q.threshold; members = [] } in
    let done = all_pushed c.args.names.now c.members-tree.result.now c.loop-member.member-index c.len-number.result q kept c.loop-member.members.items c.args.sets.now.items c.loop-member.sets.items
    c.loop-member-test.false c.loop-member.invariant.number c.loop-member.invariant.numbers c.loop-member.invariant.pushed in
    ap (λ (s : Level). set c.loop-member.sets.items c.len-number.result s) (c.new-3.ensures ∙ (λ j. record { threshold = c.threshold-2.ensures j; members = c.loop-member.members.items })) ∙ done
