use Rattle.std.proofs.Common.{◌≡◌}
use Rattle.host_compare.proofs.RunsOf.{log_so_far}
use Rattle.host_compare.proofs.replay.replay.Given as goal

abbrev pub invariant-loop-call : goal.invariant-loop-call
invariant-loop-call l = l.journal ≡ log_so_far l.submission l.config l.net l.call-index
