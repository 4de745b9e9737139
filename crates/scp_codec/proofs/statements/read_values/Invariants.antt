use Rattle.std.proofs.Common.{◌≡◌, ◌-◌}
use Rattle.scp_codec.specs.Reading.{values_at}
use Rattle.scp_codec.proofs.ValueLoop.{with_front}
use Rattle.scp_codec.proofs.statements.read_values.Given as goal

abbrev pub invariant-loop : goal.invariant-loop
invariant-loop l = with_front l.values (values_at (l.count - l.counter) l.reader) ≡ values_at l.count l.fn.reader
