use Rattle.std.proofs.Common.{◌≡◌, ◌++◌, drop}
use Rattle.std.specs.Prelude.{string_bytes}
use Rattle.scp_spec.specs.Runs.{state_of}
use Rattle.line_run.specs.SettledLines.{text_of_deciders}
use Rattle.line_run.proofs.settled_lines.push_deciders.Given as goal

abbrev pub invariant-loop-hosted : goal.invariant-loop-hosted
invariant-loop-hosted g l =
    string_bytes l.text ++ text_of_deciders (state_of l.journal.config l.journal.entries) l.slot (drop l.hosted-index l.nodes)
    ≡ string_bytes l.fn.text ++ text_of_deciders (state_of l.journal.config l.journal.entries) l.slot l.nodes
