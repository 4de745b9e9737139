use Rattle.std.proofs.Common.{◌≡◌, ◌++◌, drop}
use Rattle.std.specs.Prelude.{string_bytes}
use Rattle.std.specs.List.{flat_map}
use Rattle.line_request.specs.Replies.{behind_space}
use Rattle.line_request.proofs.replies.push_outs.Given as goal

abbrev pub invariant-loop-out : goal.invariant-loop-out
invariant-loop-out l = string_bytes l.text ++ flat_map behind_space (drop l.out-index l.outs) ≡ string_bytes l.fn.text ++ flat_map behind_space l.outs
