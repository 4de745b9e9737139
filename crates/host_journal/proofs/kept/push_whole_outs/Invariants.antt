use Rattle.std.proofs.Common.{◌≡◌, ◌++◌, drop, length, take}
use Rattle.node_core.specs.Filings.{whole_outs}
use Rattle.host_journal.proofs.kept.push_whole_outs.Given as goal

abbrev pub invariant-loop-out : goal.invariant-loop-out
invariant-loop-out g l = record {
  pushed : l.whole.items ++ whole_outs (drop l.out-index l.outs) ≡ l.initial.whole.items ++ whole_outs l.outs;
  kept : take (length l.initial.whole.items) l.whole.items ≡ l.initial.whole.items;
}
