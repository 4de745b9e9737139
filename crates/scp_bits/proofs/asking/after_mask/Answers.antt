use Rattle.std.proofs.Common.{◌≡◌, ◌+◌, ◌/◌, ◌%◌, ◌^◌, ◌<◌, ◌≤◌, rules, bit_and, count_ones, sym, subst, ◌∙◌, arith}
use Rattle.scp_bits.specs.Asking.{IsAsked}
use Rattle.scp_bits.specs.Met.{one_where}
use Rattle.scp_bits.proofs.Tallies.{word_from, whole_word, bit_within, half_below, is_odd, is_even, set_bit, clear_bit, no_bit, not_asked}
use Rattle.scp_bits.proofs.Words.{few_common}
use Rattle.scp_bits.proofs.asking.after_mask.Goals as goal
use Rattle.scp_bits.proofs.asking.after_mask.Goals.{then-rest-eq1, else-rest-eq1}

pub loop-rest-init : goal.loop-rest-init
loop-rest-init g c = record {
  first = search rules;
  low = search rules;
  so_far = λ ws are t is. whole_word ws c.args.mask.now c.args.start t is;
}

pub loop-rest-preserved : goal.loop-rest-preserved
loop-rest-preserved g c =
    let m = c.args.mask.now in
    let rest = c.loop-rest.rest in
    let bit = c.loop-rest.bit in
    let first = c.in-Some.first in
    let old = c.loop-rest.tally in
    let passing = g.P.Passing.passing c.args.who.now in
    let kept = c.loop-rest.invariant in
    let within : bit < 64 = bit_within rest bit c.loop-rest.invariant.low c.loop-rest-test.true in
    let short : rest < 2 ^ 64 = omega (arith, c.loop-rest.auto.rest-fits) in record {
      first = kept.first;
      low = half_below rest bit within kept.low;
      so_far = λ ws are t later. elim c.if-rest-eq1.branch [
        | then-rest-eq1 w ↦
            let odd : rest % 2 ≡ 1 = is_odd rest w.if-rest-eq1.true in
            let asked : IsAsked (one_where (passing (first + bit))) 1 old c.if-rest-eq1.tally = subst (λ n. IsAsked (one_where (passing (first + bit))) 1 old n) (sym w.tally-is) (subst (λ b. IsAsked (one_where b) 1 old w.after-tally.result) w.passes.ensures w.after-tally.ensures) in
            kept.so_far ws are t (set_bit passing ws are m.index bit rest first old c.if-rest-eq1.tally t kept.first within short odd asked later)
        | else-rest-eq1 w ↦
            let even : rest % 2 ≡ 0 = is_even rest w.if-rest-eq1.false in
            kept.so_far ws are t (clear_bit ws m.index bit rest old t even (subst (λ n. IsAsked (count_ones (bit_and (rest / 2) (word_from ws m.index (bit + 1)))) (count_ones (rest / 2)) n t) w.tally-is later))
      ];
    }

pub returns-else-is_open : goal.returns-else-is_open
returns-else-is_open g c = λ ws are.
    let m = c.args.mask.now in
    let rest = c.loop-rest.rest in
    let v = word_from ws m.index c.loop-rest.bit in
    let few : count_ones (bit_and rest v) ≤ count_ones rest = few_common 64 rest v (omega (arith, c.loop-rest.auto.rest-fits)) in
    c.loop-rest.invariant.so_far ws are c.loop-rest.tally (not_asked (count_ones (bit_and rest v)) (count_ones rest) c.loop-rest.tally few (sym c.is_open.ensures ∙ c.if-is_open.false))

pub returns-after-loop-rest : goal.returns-after-loop-rest
returns-after-loop-rest g c = λ ws are.
    let none : c.loop-rest.rest ≡ 0 = search rules in
    c.loop-rest.invariant.so_far ws are c.loop-rest.tally (no_bit c.loop-rest.rest (word_from ws c.args.mask.now.index c.loop-rest.bit) c.loop-rest.tally none)
