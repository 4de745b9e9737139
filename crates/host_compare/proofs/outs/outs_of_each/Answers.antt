use Rattle.std.proofs.Common.{◌∙◌, ap, arith, length, List}
use Rattle.std.proofs.lemmas.List.{take_all}
use Rattle.scp_spec.specs.Hosts.{Entry}
use Rattle.host_compare.specs.OutLists.{outs_of_each}
use Rattle.host_compare.proofs.OutLaws.{noted_by, each_at_first, each_length}
use Rattle.host_compare.proofs.outs.outs_of_each.Goals as goal

pub loop-number-init : goal.loop-number-init
loop-number-init g c = c.in_ok-list.ensures ∙ each_at_first c.args.slot c.args.names.now

pub note-requires-clause-same : goal.note-requires-clause-same
note-requires-clause-same g c = ap length c.loop-number.invariant ∙ each_length c.args.slot _ c.args.names.now

pub loop-number-preserved : goal.loop-number-preserved
loop-number-preserved g c =
    noted_by c.args.slot c.args.journal.now.entries c.loop-number.number c.args.names.now c.loop-number.list.items c.note.new.list.items
    (omega (arith, c.loop-number-test.true, c.len-number-end.ensures)) c.loop-number.invariant c.in_ok-note.ensures

pub returns : goal.returns
returns g c = c.of.ensures ∙ (c.loop-number.invariant ∙ ap (λ (es : List Entry). outs_of_each c.args.slot es c.args.names.now) (take_all c.loop-number.number c.args.journal.now.entries (omega (arith, c.loop-number-test.false, c.len-number-end.ensures))))
