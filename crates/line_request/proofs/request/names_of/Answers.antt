use Rattle.std.proofs.Common.{rules}
use borrow.Author.Tests.{tests}
use Rattle.std.specs.Prelude.{◌==◌}
use Rattle.std.specs.List.{slice_split}
use Rattle.std.proofs.lemmas.Iterator.Splits.{YieldsList-from_slice_split}
use Rattle.line_script.specs.Names.{word_name}
use Rattle.line_script.proofs.WordLists.{all_left, one_read, one_wrong, all_read}
use Rattle.line_request.proofs.request.names_of.Goals as goal

pub loop-word-init : goal.loop-word-init
loop-word-init c =
    all_left word_name _ _ _ (YieldsList-from_slice_split _ _ c.args.list.now c.split-word-items.ensures.rest c.split-word-items.ensures.done
    c.split-word-items.ensures.closure (λ x r q k. search (rules, tests))) c.into_iter-word-iterator.ensures.into_iter_gives (search rules)

pub loop-word-preserved : goal.loop-word-preserved
loop-word-preserved c = one_read word_name c.next.new.self c.in-Some.word _ _ (slice_split (λ b. b == 44) c.args.list.now) c.in-Some-name_of.name c.loop-word.invariant c.in-Some.ensures.steps (search rules) (search rules)

pub returns-in-None-name_of : goal.returns-in-None-name_of
returns-in-None-name_of c = one_wrong word_name c.next.new.self c.in-Some.word _ (slice_split (λ b. b == 44) c.args.list.now) c.loop-word.invariant c.in-Some.ensures.steps (search rules)

pub returns : goal.returns
returns c = all_read word_name _ _ (slice_split (λ b. b == 44) c.args.list.now) c.loop-word.invariant c.in-None.ensures.steps
