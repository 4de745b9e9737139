use Rattle.std.proofs.Common.{◌≡◌, ◌∷◌, drop}
use Rattle.scp_types.specs.Trees.{rises}
use Rattle.scp_types.proofs.nested.is_ascending.Given as goal

abbrev pub invariant-loop-name : goal.invariant-loop-name
invariant-loop-name l = rises (l.last ∷ drop l.name-index l.rest) ≡ rises l.names
