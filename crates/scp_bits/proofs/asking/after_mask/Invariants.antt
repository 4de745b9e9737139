use Rattle.std.proofs.Common.{◌≡◌, ◌*◌, ◌-◌, ◌^◌, ◌<◌, ℕ, List, bit_and, count_ones}
use Rattle.scp_bits.specs.Asking.{ArePassing, IsAsked}
use Rattle.scp_bits.specs.Places.{ones_at}
use Rattle.scp_bits.specs.declared.asking.Tally.{Tally}
use Rattle.scp_bits.proofs.Tallies.{word_from}
use Rattle.scp_bits.proofs.asking.after_mask.Given as goal

abbrev pub invariant-loop-rest : goal.invariant-loop-rest
invariant-loop-rest g l = record {
  first : l.first ≡ l.mask.index * 64;
  low : l.rest < 2 ^ (64 - l.bit);
  so_far : (ws : List ℕ) → ArePassing (g.P.Passing.passing l.who) ws → (t : Tally)
      → IsAsked (count_ones (bit_and l.rest (word_from ws l.mask.index l.bit))) (count_ones l.rest) l.tally t → IsAsked (ones_at l.mask ws) (count_ones l.mask.bits) l.fn.start t;
}

abbrev pub decreases-loop-rest : goal.decreases-loop-rest
decreases-loop-rest g l = l.rest
