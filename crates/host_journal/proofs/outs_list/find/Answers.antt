use Rattle.std.proofs.Common.{rules}
use Rattle.std.proofs.lemmas.List.Sorted.{answers_always}
use Rattle.host_journal.specs.Giving.{entry_number}
use Rattle.host_journal.proofs.Listing.{found}
use Rattle.host_journal.proofs.outs_list.find.Goals as goal

pub returns : goal.returns
returns c =
    let facts = c.binary_search_by_key.ensures in
    found c.args.lists.now c.args.entry c.binary_search_by_key.result c.requires facts.bound (facts.position entry_number (answers_always _ _ _ (λ f a r g called. search rules)))
