-- The line at hand begins before the byte at hand.
use Rattle.std.proofs.Common.{◌≤◌}
use Rattle.line_reason.proofs.lines.line_at.Given as goal

abbrev pub invariant-loop-place : goal.invariant-loop-place
invariant-loop-place l = l.start ≤ l.place
