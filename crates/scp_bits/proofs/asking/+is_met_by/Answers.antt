use Rattle.std.proofs.Common.{◌≡◌, ◌+◌, ◌<◌, ℕ, List, drop, length, rules, sym, subst, ap, ◌∙◌, arith}
use Rattle.scp_bits.specs.Asking.{IsAsked}
use Rattle.scp_bits.specs.Met.{has_needed, one_where, sets_met}
use Rattle.scp_bits.specs.Places.{Compiled, count_in, places_in, sets_of, weight_of_sets}
use Rattle.scp_bits.specs.declared.mask.Mask.{Mask}
use Rattle.scp_bits.proofs.Tallies.{one_set, skips_set, no_set, all_asked}
use Rattle.scp_bits.proofs.Weights.{inner_weighs_less}
use Rattle.scp_bits.proofs.asking.+is_met_by.Goals as goal
use Rattle.scp_bits.proofs.asking.+is_met_by.Goals.{then-is_open, else-is_open}

pub loop-inner-init : goal.loop-inner-init
loop-inner-init g t c = record {
  shape = c.inner-sets.ensures;
  so_far = λ ws are t' later.
      let set = c.args.set.now in
      let mid = c.after_masks-tally.result in
      let Asked : List Mask → ℕ → Type 0 = λ ms needed. IsAsked (places_in ms ws) (count_in ms) (record { missing = needed; left = c.members.result }) mid in
      let asked = subst (λ (q : List Mask × ℕ). Asked q.0 q.1) (λ i. (c.masks.ensures i, c.needed_count.ensures i)) (c.after_masks-tally.ensures ws are) in
      all_asked set c.inner-sets.result.now ws c.members.result mid t' c.inner-sets.ensures c.members.ensures asked later;
}

pub is_met_by-requires : goal.is_met_by-requires
is_met_by-requires g t c =
    let w = inner_weighs_less c.inner-sets.result.now c.loop-inner.inner-index c.inner-item.result c.loop-inner-test.true in
    let f = ap (λ (s : Compiled). weight_of_sets s.inner) c.inner-item.is in
    let e = ap weight_of_sets c.inner-sets.ensures in
    let smaller : weight_of_sets c.inner-item.result.inner < weight_of_sets c.args.set.now.inner = omega (arith, w, e, f) in
    search rules

pub loop-inner-preserved : goal.loop-inner-preserved
loop-inner-preserved g t c =
    let sets = c.inner-sets.result.now in
    let i = c.loop-inner.inner-index in
    let x = c.inner-item.result in
    let old = c.loop-inner.tally in
    let kept = c.loop-inner.invariant in record {
      shape = kept.shape;
      so_far = λ ws are t' later. elim c.if-is_open.branch [
        | then-is_open w ↦
            let answer : w.is_met_by.result ≡ has_needed x ws = w.is_met_by.ensures ws are in
            let asked : IsAsked (one_where w.is_met_by.result) 1 old c.if-is_open.tally = subst (λ n. IsAsked (one_where w.is_met_by.result) 1 old n) (sym w.tally-is) w.after-tally.ensures in
            kept.so_far ws are t' (one_set sets i x ws w.is_met_by.result old c.if-is_open.tally t' c.loop-inner-test.true (answer ∙ ap (λ y. has_needed y ws) c.inner-item.is) asked later)
        | else-is_open w ↦
            let shut = sym c.is_open.ensures ∙ w.if-is_open.false in
            kept.so_far ws are t' (skips_set sets i x ws old t' c.loop-inner-test.true shut (subst (λ n. IsAsked (sets_met (sets_of (drop (i + 1) sets)) ws) (length (drop (i + 1) sets)) n t') w.tally-is later))
      ];
    }

pub returns : goal.returns
returns g t c = λ ws are. c.loop-inner.invariant.so_far ws are c.loop-inner.tally (no_set c.inner-sets.result.now c.loop-inner.inner-index ws c.loop-inner.tally (omega (arith, c.loop-inner-test.false)))
