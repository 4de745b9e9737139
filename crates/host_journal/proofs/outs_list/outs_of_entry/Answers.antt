use Rattle.std.proofs.Common.{get_or, sym, ◌∙◌}
use Rattle.std.proofs.lemmas.List.{get_or_default}
use Rattle.host_journal.proofs.Listing.{listed-nowhere, listed-there}
use Rattle.host_journal.proofs.outs_list.outs_of_entry.Goals as goal

pub returns-in-Ok : goal.returns-in-Ok
returns-in-Ok c =
    let x = get_or c.args.lists.now c.in-Ok.at c.index-lists-at.result in
    c.as_slice.ensures.value ∙ listed-there c.args.lists.now c.args.entry c.in-Ok.at x c.in-Ok.ensures.0 c.in-Ok.ensures.1 (get_or_default c.args.lists.now c.in-Ok.at c.index-lists-at.result x c.in-Ok.ensures.1)

pub returns-in-Err : goal.returns-in-Err
returns-in-Err c = sym (listed-nowhere c.args.lists.now c.args.entry c.in-Err.ensures)
