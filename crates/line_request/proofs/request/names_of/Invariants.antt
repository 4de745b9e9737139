use Rattle.std.specs.Prelude.{◌==◌}
use Rattle.std.specs.List.{slice_split}
use Rattle.line_script.specs.Names.{word_name}
use Rattle.line_script.proofs.WordLists.{Left}
use Rattle.line_request.proofs.request.names_of.Given as goal

abbrev pub invariant-loop-word : goal.invariant-loop-word
invariant-loop-word l = Left goal.iterator-loop-word.next_gives (λ word. word.now) word_name l.word-iterator l.names.items (slice_split (λ b. b == 44) l.fn.list)
