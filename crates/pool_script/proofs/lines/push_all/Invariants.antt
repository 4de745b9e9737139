use Rattle.std.proofs.Common.{◌≡◌, ◌++◌, drop}
use Rattle.std.specs.Prelude.{string_bytes}
use Rattle.std.specs.List.{flat_map}
use Rattle.pool_script.specs.PoolLines.{decided_line}
use Rattle.pool_script.proofs.lines.push_all.Given as goal

abbrev pub invariant-loop-one : goal.invariant-loop-one
invariant-loop-one l =
    string_bytes l.text ++ flat_map (decided_line l.number) (drop l.one-index l.decided) ≡ string_bytes l.fn.text ++ flat_map (decided_line l.number) l.decided
