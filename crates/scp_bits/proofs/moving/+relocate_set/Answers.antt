use Rattle.std.proofs.Common.{◌≡◌, ◌+◌, ◌∙◌, List, [], ◌∷◌, length, ap, arith}
use Rattle.std.specs.Prelude.{nat_le}
use Rattle.std.proofs.lemmas.List.{drop_all, length-append}
use Rattle.scp_bits.specs.declared.mask.Mask.{Mask}
use Rattle.scp_bits.specs.Met.{has_needed, one_where, sets_met}
use Rattle.scp_bits.specs.Places.{Compiled, Sets, count_in, count_sets, places_in, sets_of, weight_of_sets}
use Rattle.scp_bits.proofs.MembersMet.{one_set_more}
use Rattle.scp_bits.proofs.Tallies.{sets_at}
use Rattle.scp_bits.proofs.Weights.{counted, inner_weighs_less}
use Rattle.scp_bits.proofs.moving.+relocate_set.Goals as goal

pub relocate_set-requires : goal.relocate_set-requires
relocate_set-requires t c =
    let w = inner_weighs_less c.inner-sets.result.now c.loop-each.each-index c.each-item.result c.loop-each-test.true in
    let f = ap (λ (s : Compiled). weight_of_sets s.inner) c.each-item.is in
    let e = ap weight_of_sets c.inner-sets.ensures in
    (omega (arith, w, e, f, c.decreases), tt)

pub loop-each-preserved : goal.loop-each-preserved
loop-each-preserved t c =
    let cs = c.inner-sets.result.now in
    let i = c.loop-each.each-index in
    let before = c.loop-each.inner.items in
    let made = c.in_ok-relocate_set.field-0 in
    let kept = c.loop-each.invariant in
    let pushed = c.in_ok-push.ensures.items in
    record {
      shape = kept.shape;
      count = omega (arith, kept.count, ap (λ (xs : List Compiled). length xs) pushed, length-append before (made ∷ []));
      so_far = λ ws vs is.
          let all = ap (λ (xs : List Compiled). sets_met (sets_of xs) vs) pushed ∙ one_set_more before made vs in
          let one = ap one_where (c.in_ok-relocate_set.ensures ws vs is) ∙ ap (λ (x : Compiled). one_where (has_needed x ws)) c.each-item.is in
          omega (arith, kept.so_far ws vs is, all, one, sets_at cs i c.each-item.result ws c.loop-each-test.true);
    }

pub new-requires : goal.new-requires
new-requires t c =
    let few = c.in_ok-masks.ensures.count in
    let same = ap (λ (ms : List Mask). count_in ms) c.masks.ensures in
    let sets = ap count_sets c.loop-each.invariant.shape in
    omega (arith, c.members.ensures, few, same, sets, c.loop-each.invariant.count, c.loop-each.auto.each-index-end, counted c.inner-sets.result.now)

pub returns : goal.returns
returns t c = λ ws vs is.
    let cs = c.inner-sets.result.now in
    let set = c.args.set.now in
    let masks : places_in c.in_ok-masks.masks.items vs ≡ places_in set.masks ws = c.in_ok-masks.ensures.places ws vs is ∙ ap (λ (ms : List Mask). places_in ms ws) c.masks.ensures in
    let none = ap (λ (xs : List Compiled). sets_met (sets_of xs) ws) (drop_all c.loop-each.each-index cs (omega (arith, c.loop-each-test.false))) in
    let shape = ap (λ (s : Sets). sets_met s ws) c.loop-each.invariant.shape in
    let sets : sets_met (sets_of c.loop-each.inner.items) vs ≡ sets_met set.inner ws = omega (arith, c.loop-each.invariant.so_far ws vs is, none, shape) in
    ap (λ (x : Compiled). has_needed x vs) c.new.ensures ∙ (λ i. nat_le (c.needed_count.ensures i) (masks i + sets i))
