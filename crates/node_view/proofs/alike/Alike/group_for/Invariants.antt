use Rattle.std.proofs.Common.{◌≡◌, ℕ, ◌<◌, [], IfSome, get_or, length}
use Rattle.scp_bits.specs.Places.{bit_of}
use Rattle.node_view.proofs.alike.Alike.group_for.Given as goal

abbrev pub invariant-loop-index : goal.invariant-loop-index
invariant-loop-index g l = IfSome l.empty (λ j. (j < length l.self.groups.items) × ((i : ℕ) → bit_of (get_or l.self.groups.items j []) i ≡ 0))
