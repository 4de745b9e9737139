use Rattle.std.proofs.Common.{rules, IsPermutation, subst}
use Rattle.pool_script.proofs.SortingLaws.{lowers}
use Rattle.pool_script.proofs.decided.decided_in.Goals as goal

pub returns : goal.returns
returns g c = (
  subst (λ xs. IsPermutation xs c.sort_unstable_by_key.new.self.items) c.in_ok-found.ensures c.sort_unstable_by_key.ensures.permutation,
  lowers c.sort_unstable_by_key.new.self.items c.sort_unstable_by_key.ensures.sorted (λ a r f k. search rules),
)
