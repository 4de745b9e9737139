use Rattle.std.proofs.Common.{◌≡◌, ◌++◌, drop}
use Rattle.std.specs.List.{flat_map}
use Rattle.scp_codec.specs.Spelling.{value, nominated_values}
use Rattle.scp_codec.proofs.encoder.put_nominated.Given as goal

abbrev pub invariant-loop-item : goal.invariant-loop-item
invariant-loop-item l = l.out.items ++ flat_map value (drop l.item-index l.items) ≡ l.fn.out.items ++ nominated_values l.values
