use Rattle.std.proofs.Common.{◌≡◌, take}
use Rattle.node_store.specs.Archives.{only_held}
use Rattle.node_store.proofs.archive.Archive.let_go.Given as goal

abbrev pub invariant-loop-number : goal.invariant-loop-number
invariant-loop-number g l = l.self ≡ only_held (take l.number l.held) l.initial.self
