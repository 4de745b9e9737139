use Rattle.std.proofs.Common.{rules}
use Rattle.host_network.specs.Decoding.{step_of}
use Rattle.host_journal.specs.declared.kept.StoredEntry.{StoredEntry}
use Rattle.host_journal.proofs.Growing.{kept-with, more-kept}
use Rattle.host_journal.proofs.kept_entries.KeptKeeping.enter.Goals as goal

pub returns-clause-entered : goal.returns-clause-entered
returns-clause-entered c =
    let x : StoredEntry = record { event = c.kept_event-event.result; outs = c.put-outs.result } in
    more-kept c.args.self.now.entries.items c.push_reserved.new.self.items x (step_of c.args.event) c.args.filed.items c.push_reserved.ensures.items
    (record { step = c.kept_event-event.ensures.step; gave = c.put-outs.ensures.outs })

pub returns-clause-kept : goal.returns-clause-kept
returns-clause-kept c = λ archive delivered filed all.
    let x : StoredEntry = record { event = c.kept_event-event.result; outs = c.put-outs.result } in
    kept-with c.args.config.now.nodes archive c.args.self.now.given.items c.put-outs.new.lists.items c.len.result c.args.self.now.entries.items c.push_reserved.new.self.items x c.args.filed all
    (search rules) c.put-outs.ensures.put c.push_reserved.ensures.items (c.kept_event-event.ensures.filed archive delivered) c.put-outs.ensures.outs filed
