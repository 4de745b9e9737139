-- Those of a list that pass, and an answer that has two reasons.
use Rattle.std.proofs.Common.{◌≡◌, ℕ, ◌<◌, Bool, false, List, filter, IsTrue, ◌↔◌, sym, ◌∙◌, subst, inl, inr, ◌⊎◌}
use Rattle.std.proofs.lemmas.Bool.{false≢true}
use Rattle.std.proofs.lemmas.List.Kept.{AllPairs-filter}
use Rattle.scp_spec.specs.Sets.{Names, IsAscending}

pub ascending_kept : (us kept : List ℕ) (p : Names) → kept ≡ filter p us → IsAscending us → IsAscending kept
ascending_kept us kept p e is = subst IsAscending (sym e) (AllPairs-filter (λ u w. u < w) p us is)

-- where the first reason is not there, the second decides
pub other_reason : {First Second : Type 0} (a b : Bool) → a ≡ false → IsTrue a ↔ First → IsTrue b ↔ Second → IsTrue b ↔ (First ⊎ Second)
other_reason a b false_first first second = (
  λ h. inr (second.0 h),
  λ h. elim h [ inl f ↦ absurd (false≢true (sym false_first ∙ first.1 f)) | inr s ↦ second.1 s ],
)
