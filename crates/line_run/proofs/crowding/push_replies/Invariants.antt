use Rattle.std.proofs.Common.{◌≡◌, ◌++◌, drop}
use Rattle.std.specs.Prelude.{string_bytes}
use Rattle.std.specs.List.{flat_map}
use Rattle.line_run.specs.Crowding.{line_of_replied}
use Rattle.line_run.proofs.crowding.push_replies.Given as goal

abbrev pub invariant-loop-reply : goal.invariant-loop-reply
invariant-loop-reply l = string_bytes l.text ++ flat_map line_of_replied (drop l.reply-index l.replies) ≡ string_bytes l.fn.text ++ flat_map line_of_replied l.replies
