use Rattle.std.proofs.Common.{◌+◌, List, [], ◌∷◌, Vec, length, ap, ◌∙◌, arith}
use Rattle.std.specs.Global.{Global}
use Rattle.std.proofs.lemmas.List.{length-append}
use Rattle.scp_types.specs.Trees.{weight_of}
use Rattle.scp_bits.specs.declared.mask.Mask.{Mask}
use Rattle.scp_types.proofs.Weights.{inner_weighs_less}
use Rattle.scp_spec.specs.Sets.{among}
use Rattle.scp_bits.specs.Places.{Compiled, count_in, places_in, sets_of}
use Rattle.scp_bits.specs.Met.{has_needed, sets_met, nodes_at, one_where, needed_of}
use Rattle.scp_bits.proofs.MembersMet.{node_on, set_on, one_set_more, all_met}
use Rattle.scp_bits.proofs.compiling.+compile.Goals as goal
use Rattle.scp_bits.proofs.compiling.+compile.Goals.{in-Node+in_ok-next-in-Node, in-Set+in_ok-compile-in-Set+in_ok-push-in-Set}

pub compile-requires : goal.compile-requires
compile-requires t c =
    let w = inner_weighs_less c.members-members.result.now c.loop-member.member-index c.member-item.result c.in-Set.set c.loop-member-test.true c.member-item.is c.in-Set.is in
    let e = ap weight_of c.members-members.ensures in
    (omega (arith, w, e, c.decreases), c.requires)

pub loop-member-preserved : goal.loop-member-preserved
loop-member-preserved t c = record {
  shape = c.loop-member.invariant.shape;
  count =
      let before = c.loop-member.invariant.count in
      elim c.match-member.branch [
        | in-Node+in_ok-next-in-Node w ↦
            let added = ap (λ (v : Vec Mask Global). count_in v.items) w.masks-is in
            let same = ap (λ (v : Vec Compiled Global). length v.items) w.inner-is in
            omega (arith, before, added, same, w.in_ok-next-in-Node.ensures.count)
        | in-Set+in_ok-compile-in-Set+in_ok-push-in-Set w ↦
            let same = ap (λ (v : Vec Mask Global). count_in v.items) w.masks-is in
            let added = ap (λ (v : Vec Compiled Global). length v.items) w.inner-is in
            let more = ap (λ (cs : List Compiled). length cs) w.in_ok-push-in-Set.ensures.items in
            omega (arith, before, added, same, more, length-append c.loop-member.inner.items (w.in_ok-compile-in-Set.field-0 ∷ []))
      ];
  so_far = λ ws.
      let ms = c.members-members.result.now in
      let i = c.loop-member.member-index in
      let s = among (nodes_at c.args.nodes.now ws) in
      let before = c.loop-member.invariant.so_far ws in
      elim c.match-member.branch [
        | in-Node+in_ok-next-in-Node w ↦
            let added = ap (λ (v : Vec Mask Global). places_in v.items ws) w.masks-is ∙ w.in_ok-next-in-Node.ensures.places ws in
            let same = ap (λ (v : Vec Compiled Global). sets_met (sets_of v.items) ws) w.inner-is in
            omega (arith, before, added, same, node_on c.args.blocking ms i c.member-item.result w.in-Node.node s c.loop-member-test.true c.member-item.is w.in-Node.is)
        | in-Set+in_ok-compile-in-Set+in_ok-push-in-Set w ↦
            let same = ap (λ (v : Vec Mask Global). places_in v.items ws) w.masks-is in
            let compiled = w.in_ok-compile-in-Set.field-0 in
            let added = ap (λ (v : Vec Compiled Global). sets_met (sets_of v.items) ws) w.inner-is ∙ ap (λ (cs : List Compiled). sets_met (sets_of cs) ws) w.in_ok-push-in-Set.ensures.items in
            let more = one_set_more c.loop-member.inner.items compiled ws ∙ ap (λ x. sets_met (sets_of c.loop-member.inner.items) ws + one_where x) (w.in_ok-compile-in-Set.ensures ws) in
            omega (arith, before, added, more, same, set_on c.args.blocking ms i c.member-item.result w.in-Set.set s c.loop-member-test.true c.member-item.is w.in-Set.is)
      ];
}

pub returns : goal.returns
returns t c = λ ws.
    let ms = c.members-members.result.now in
    let s = among (nodes_at c.args.nodes.now ws) in
    let made : Compiled = record { needed = c.needed_of-needed.result; masks = c.loop-member.masks.items; inner = sets_of c.loop-member.inner.items } in
    let needed = c.needed_of-needed.ensures ∙ ap (λ k. needed_of c.args.blocking k (length ms)) c.threshold.ensures in
    ap (λ (x : Compiled). has_needed x ws) c.new.ensures
    ∙ all_met c.args.blocking ms c.loop-member.member-index c.args.set.now s made ws (omega (arith, c.loop-member-test.false)) c.members-members.ensures needed (c.loop-member.invariant.so_far ws)
