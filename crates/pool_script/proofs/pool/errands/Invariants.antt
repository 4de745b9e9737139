use Rattle.std.proofs.Common.{◌≡◌, Some}
use Rattle.pool_queue.proofs.Sharing.{Makes}
use Rattle.pool_script.specs.declared.dealing.Share.{Share}
use Rattle.pool_script.specs.declared.errand.Errand.{Errand}
use Rattle.pool_script.proofs.pool.errands.Given as goal

abbrev pub invariant-loop-share : goal.invariant-loop-share
invariant-loop-share g l = Makes (λ (s : Share) (e : Errand _). e.share ≡ Some s) l.fn.shares.items l.share-iterator.rest.items l.errands.items
