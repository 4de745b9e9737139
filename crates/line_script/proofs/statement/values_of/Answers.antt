use Rattle.std.proofs.Common.{◌≡◌, false, List, length, rules, sym}
use borrow.Author.Tests.{tests}
use Rattle.std.specs.Prelude.{◌==◌, Option}
use Rattle.std.specs.List.{slice_split}
use Rattle.std.proofs.lemmas.Iterator.Splits.{YieldsList-from_slice_split}
use Rattle.line_script.specs.Script.{Bytes}
use Rattle.line_script.specs.Statements.{word_values}
use Rattle.line_script.specs.Values.{word_value}
use Rattle.line_script.specs.WordLists.{each_word}
use Rattle.line_script.proofs.WordLists.{all_left, one_read, one_wrong, all_read}
use Rattle.line_script.proofs.statement.values_of.Goals as goal

-- a list that is not empty spells what its words do
not_empty : (list : Bytes) (r : Option (List Bytes)) → (length list == 0) ≡ false → r ≡ each_word word_value (slice_split (λ b. b == 43) list) → r ≡ word_values list
not_empty list r some e = rw some e

pub loop-word-init : goal.loop-word-init
loop-word-init c =
    all_left word_value _ _ _ (YieldsList-from_slice_split _ _ c.args.list.now c.split-word-items.ensures.rest c.split-word-items.ensures.done
    c.split-word-items.ensures.closure (λ x r q k. search (rules, tests))) c.into_iter-word-iterator.ensures.into_iter_gives c.empty-values.ensures

pub loop-word-preserved : goal.loop-word-preserved
loop-word-preserved c = one_read word_value c.next.new.self c.in-Some.word _ _ (slice_split (λ b. b == 43) c.args.list.now) _ c.loop-word.invariant c.in-Some.ensures.steps (search rules) c.in_ok-push-in-Some-2.ensures.ok

pub returns-in-None-2 : goal.returns-in-None-2
returns-in-None-2 c = not_empty c.args.list.now _ (sym c.if-is_empty.ensures) (one_wrong word_value c.next.new.self c.in-Some.word _ (slice_split (λ b. b == 43) c.args.list.now) c.loop-word.invariant c.in-Some.ensures.steps (search rules))

pub returns : goal.returns
returns c = not_empty c.args.list.now _ (search rules) (all_read word_value _ _ (slice_split (λ b. b == 43) c.args.list.now) c.loop-word.invariant c.in-None.ensures.steps)
