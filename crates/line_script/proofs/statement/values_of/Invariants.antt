use Rattle.std.specs.Prelude.{◌==◌}
use Rattle.std.specs.List.{slice_split}
use Rattle.line_script.specs.Values.{word_value}
use Rattle.line_script.proofs.WordLists.{Left}
use Rattle.line_script.proofs.statement.values_of.Given as goal

abbrev pub invariant-loop-word : goal.invariant-loop-word
invariant-loop-word l = Left goal.iterator-loop-word.next_gives (λ word. word.now) word_value l.word-iterator l.values (slice_split (λ b. b == 43) l.fn.list)
