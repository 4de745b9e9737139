use Rattle.std.proofs.Common.{◌≡◌, ◌++◌, drop}
use Rattle.std.specs.Prelude.{string_bytes}
use Rattle.std.specs.List.{flat_map}
use Rattle.line_run.specs.ReplyLines.{line_behind}
use Rattle.line_run.proofs.replies.push_replies.Given as goal

abbrev pub invariant-loop-answer : goal.invariant-loop-answer
invariant-loop-answer l = string_bytes l.text ++ flat_map line_behind (drop l.answer-index l.answers) ≡ string_bytes l.fn.text ++ flat_map line_behind l.answers
