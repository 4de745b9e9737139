use Rattle.std.proofs.Common.{◌≡◌, ◌++◌, drop, length}
use Rattle.node_store.specs.Archives.{AreFiled, sents_of}
use Rattle.scp_spec.specs.Networks.{emissions}
use Rattle.host_network.specs.Marks.{numbers_by_kind}
use Rattle.node_core.specs.Filings.{whole_outs}
use Rattle.host_network.specs.FiledSlots.{HaveRoom}
use Rattle.host_network.specs.EmissionsByKind.{AreByKind}
use Rattle.host_network.proofs.emission_log.log_outs.Given as goal

abbrev pub invariant-loop-out : goal.invariant-loop-out
invariant-loop-out g l = record {
  emitted : sents_of l.emitted.items ++ emissions (whole_outs (drop l.out-index l.outs)) ≡ sents_of l.fn.emitted.items ++ emissions (whole_outs l.outs);
  places : AreByKind l.places (sents_of l.emitted.items);
  marks : l.marks.items ++ numbers_by_kind (sents_of l.emitted.items) (emissions (whole_outs (drop l.out-index l.outs))) ≡ l.fn.marks.items ++ numbers_by_kind (sents_of l.fn.emitted.items) (emissions (whole_outs l.outs));
  room : HaveRoom (length (emissions (whole_outs (drop l.out-index l.outs)))) l.emitted l.places l.marks;
  filed : AreFiled l.archive l.emitted.items;
}
