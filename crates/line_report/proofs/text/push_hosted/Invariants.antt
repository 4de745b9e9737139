use Rattle.std.proofs.Common.{◌≡◌, ◌++◌, drop}
use Rattle.std.specs.Prelude.{string_bytes}
use Rattle.std.specs.List.{flat_map}
use Rattle.line_report.specs.Texts.{line_of_blockers}
use Rattle.line_report.proofs.text.push_hosted.Given as goal

abbrev pub invariant-loop-blockers : goal.invariant-loop-blockers
invariant-loop-blockers l = string_bytes l.text ++ flat_map line_of_blockers (drop l.blockers-index l.hosted) ≡ string_bytes l.fn.text ++ flat_map line_of_blockers l.hosted
