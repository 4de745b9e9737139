use Rattle.std.proofs.Common.{◌≡◌, take}
use Rattle.line_run.specs.Unprinted.{origin_from}
use Rattle.line_run.proofs.trace.Trace.origin.Given as goal

abbrev pub invariant-loop-number : goal.invariant-loop-number
invariant-loop-number l = l.found ≡ origin_from 0 (take l.number l.self) l.net l.entry
