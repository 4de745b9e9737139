use Rattle.std.proofs.Common.{◌≡◌, length}
use Rattle.line_script.specs.Names.{short}
use Rattle.line_script.proofs.name.without_zeros.Given as goal

abbrev pub invariant-loop-front : goal.invariant-loop-front
invariant-loop-front l = short l.front ≡ short l.bytes

abbrev pub decreases-loop-front : goal.decreases-loop-front
decreases-loop-front l = length l.front
