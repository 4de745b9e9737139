use Rattle.std.proofs.Common.{◌≡◌, take}
use Rattle.node_store.specs.Archives.{Keeps}
use Rattle.node_core.specs.Filings.{AreFiledOuts, whole_outs}
use Rattle.node_core.proofs.filing.file_all.Given as goal

abbrev pub invariant-loop-out : goal.invariant-loop-out
invariant-loop-out g l =
    (whole_outs l.filed.items ≡ take l.out-index l.outs) ×
    AreFiledOuts l.archive l.filed.items ×
    Keeps l.initial.archive l.archive
