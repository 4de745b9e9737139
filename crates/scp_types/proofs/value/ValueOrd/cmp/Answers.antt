use Rattle.std.proofs.Common.{◌≡◌, Equal, subst, sym}
use Rattle.std.proofs.lemmas.Cmp.{nat_list_cmp_total, tied_itself}
use Rattle.std.specs.Cmp.Lexicographic.{slice_cmp}
use Rattle.std.specs.Ordering.{nat_cmp}
use Rattle.scp_types.proofs.value.ValueOrd.cmp.Goals as goal

-- src/value.rt:119:13
pub returns-then-is_same : goal.returns-then-is_same
returns-then-is_same c =
    let same = c.is_same.ensures.0 c.if-is_same.true in
    subst (λ v. Equal ≡ slice_cmp nat_cmp c.args.self.now v) same (sym (tied_itself nat_list_cmp_total c.args.self.now))
