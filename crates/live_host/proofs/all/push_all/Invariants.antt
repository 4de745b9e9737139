use Rattle.std.proofs.Common.{◌≡◌, ◌++◌, drop}
use Rattle.std.specs.Prelude.{string_bytes}
use Rattle.std.specs.List.{flat_map}
use Rattle.live_host.specs.Hosts.{lines_of_answer}
use Rattle.live_host.proofs.all.push_all.Given as goal

abbrev pub invariant-loop-answer : goal.invariant-loop-answer
invariant-loop-answer l =
    string_bytes l.text ++ flat_map (lines_of_answer l.place.bytes l.place.line l.place.network l.slot) (drop l.answer-index l.answers)
    ≡ string_bytes l.fn.text ++ flat_map (lines_of_answer l.place.bytes l.place.line l.place.network l.slot) l.answers
