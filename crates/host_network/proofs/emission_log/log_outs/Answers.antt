use Rattle.std.proofs.Common.{◌+◌, ◌++◌, ◌∷◌, [], length, drop, subst}
use Rattle.node_store.specs.Archives.{sents_of}
use Rattle.scp_spec.specs.Networks.{emissions}
use Rattle.host_network.specs.Marks.{numbers_by_kind}
use Rattle.node_core.specs.Filings.{whole_outs}
use Rattle.host_network.specs.FiledSlots.{HaveRoom}
use Rattle.host_network.proofs.Numbering.{emitted-more, marks-more, fewer, room-for}
use Rattle.host_network.proofs.emission_log.log_outs.Goals as goal

pub log_out-requires-clause-room : goal.log_out-requires-clause-room
log_out-requires-clause-room g c =
    let l = c.loop-out in
    let outs = c.args.outs.now in
    let x = c.out-item.result in
    room-for (length (emissions (whole_outs (drop l.out-index outs)))) (length (emissions (whole_outs (x ∷ [])))) (length (emissions (whole_outs (drop (l.out-index + 1) outs)))) l.emitted l.places l.marks
    (fewer outs l.out-index x c.loop-out-test.true c.out-item.is) l.invariant.room

pub loop-out-preserved : goal.loop-out-preserved
loop-out-preserved g c =
    let l = c.loop-out in
    let v = l.invariant in
    let outs = c.args.outs.now in
    let x = c.out-item.result in
    record {
      emitted = emitted-more (sents_of l.emitted.items) (sents_of c.log_out.new.emitted.items) (sents_of c.args.emitted.now.items ++ emissions (whole_outs outs)) outs l.out-index x c.loop-out-test.true c.out-item.is c.log_out.ensures.emitted v.emitted;
      places = c.log_out.ensures.places;
      marks = marks-more (sents_of l.emitted.items) (sents_of c.log_out.new.emitted.items) l.marks.items c.log_out.new.marks.items (c.args.marks.now.items ++ numbers_by_kind (sents_of c.args.emitted.now.items) (emissions (whole_outs outs))) outs l.out-index x c.loop-out-test.true c.out-item.is c.log_out.ensures.emitted c.log_out.ensures.marks v.marks;
      room = c.log_out.ensures.room (length (emissions (whole_outs (drop (l.out-index + 1) outs)))) (subst (λ n. HaveRoom n l.emitted l.places l.marks) (fewer outs l.out-index x c.loop-out-test.true c.out-item.is) v.room);
      filed = c.log_out.ensures.filed;
    }
