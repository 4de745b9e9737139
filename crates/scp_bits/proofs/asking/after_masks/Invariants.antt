use Rattle.std.proofs.Common.{ℕ, List, drop}
use Rattle.scp_bits.specs.Asking.{ArePassing, IsAsked}
use Rattle.scp_bits.specs.Places.{count_in, places_in}
use Rattle.scp_bits.specs.declared.asking.Tally.{Tally}
use Rattle.scp_bits.proofs.asking.after_masks.Given as goal

abbrev pub invariant-loop-mask : goal.invariant-loop-mask
invariant-loop-mask g l = (ws : List ℕ) → ArePassing (g.P.Passing.passing l.who) ws → (t : Tally)
    → IsAsked (places_in (drop l.mask-index l.masks) ws) (count_in (drop l.mask-index l.masks)) l.tally t → IsAsked (places_in l.masks ws) (count_in l.masks) l.fn.start t
